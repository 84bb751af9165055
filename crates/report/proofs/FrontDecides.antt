-- The first 65,554 bytes of an input decide its whole text. The kind is the first byte, and where bytes are left out, both inputs are too long for a
-- journal of at most 65,536 bytes: 28 where the kind is unknown, else 29.
-- Assumes nothing.
use mathlib.Core.Path.{◌≡◌, refl, sym, ap, ◌∙◌}
use mathlib.Core.Bool.{Bool, true, false, ◌||◌}
use mathlib.Core.List.{List}
use Prim.Native.Nat.{ℕ, ◌≤◌, ◌<◌}
use native.Mathlib.Omega.{arith}
use lib.Dec.{eqb, leb, lit≤}
use lib.ListN.{length, take}
use lib.Seq.{get_or-take, length-take-le, take_all}
use borrow.Author.Tests.{leb-true, leb-false, eqb-true, eqb-false}
use Rattle.fields.specs.Fields.{pick}
use Rattle.report.specs.Request.{kind_in, head_of, request_fault}
use Rattle.report.specs.Report.{refused_line, report_of}
use Rattle.report.specs.Bounds.{FrontDecides}
use Rattle.report.proofs.RequestCases.{fault_unknown, fault_long}
use Rattle.report.proofs.Answered.{refused_report}

-- at most 17 bytes stand before a journal
most_head : (b c : Bool) → pick b 17 (pick c 9 0) ≤ 17
most_head true c = lit≤ tt
most_head false true = lit≤ tt
most_head false false = lit≤ tt

head_most : (k : ℕ) → head_of k ≤ 17
unfolding head_of
head_most k = most_head (eqb k 1) (eqb k 2 || eqb k 3)

-- the fault of an input of at least 65,554 bytes
long_fault : (kind : ℕ) → ℕ
long_fault k = pick (eqb (head_of k) 0) 28 29

long-fault : (s : List ℕ) → 65554 ≤ length s → request_fault s ≡ long_fault (kind_in s)
unfolding long_fault
long-fault s h = go (eqb (head_of (kind_in s)) 0) refl
  where
    go : (b : Bool) → eqb (head_of (kind_in s)) 0 ≡ b → request_fault s ≡ pick b 28 29
    go true e = fault_unknown s (eqb-true _ _ e)
    go false e = fault_long s (eqb-false _ _ e) (omega (arith, h, head_most (kind_in s))) (omega (arith, h, head_most (kind_in s)))

is_fault : (k : ℕ) → long_fault k ≡ 0 → ⊥
unfolding long_fault
is_fault k = go (eqb (head_of k) 0)
  where
    go : (b : Bool) → ◌≡◌ {A = ℕ} (pick b 28 29) 0 → ⊥
    go true e = omega (arith, e)
    go false e = omega (arith, e)

long_report : (s : List ℕ) → 65554 ≤ length s → report_of s ≡ refused_line (long_fault (kind_in s)) 0
long_report s h = refused_report s (long_fault (kind_in s)) (sym (long-fault s h)) (λ z. is_fault (kind_in s) (sym (long-fault s h) ∙ z))

same_kind : (n : ℕ) (s : List ℕ) → 65554 ≤ n → kind_in (take n s) ≡ kind_in s
unfolding kind_in
same_kind n s h = get_or-take n s 0 0 (omega (arith, h))

pub front_decides : FrontDecides
front_decides n h s = go (leb (length s) n) refl
  where
    go : (b : Bool) → leb (length s) n ≡ b → report_of (take n s) ≡ report_of s
    go true e = ap report_of (take_all n s (leb-true _ _ e))
    go false e =
        let l : n < length s = leb-false _ _ e in
        long_report (take n s) (omega (arith, h, length-take-le n s (omega (arith, l))))
        ∙ ap (λ (k : ℕ). refused_line (long_fault k) 0) (same_kind n s h)
        ∙ sym (long_report s (omega (arith, h, l)))
