-- Pieces of a text: one behind the other they are one piece, and all of it, from the front on, is the text laid over the buffer.
-- Assumes nothing.
use mathlib.Core.Path.{◌≡◌, refl, sym, ap, ap₂, ◌∙◌}
use mathlib.Core.List.{List, [], ◌∷◌, ◌++◌}
use Prim.Native.Nat.{ℕ, suc, ◌+◌, ◌-◌, ◌≤◌, ◌<◌, min}
use native.Mathlib.Nat.{zero-add}
use native.Mathlib.Omega.{arith, min_cases}
use lib.ListN.{length, take, drop, length-append, drop_of_length-le, take-append-drop}
use lib.Seq.{sets, sets-eq, length-sets, set_out, take_all, length-take-le, take-take}
use borrow.Rule.Slice.PartMut.{put_mid}
use Rattle.fields.proofs.Put.{sets_append, sets_put, mid_put}
use denote.Ref.{MutBor, at_last}
use Rattle.report.specs.declared.words.Printer.{Printer}
use Rattle.report.specs.Steps.{Wrote, printer_of, printed, Prints}
use Rattle.report.specs.Text.{over}

-- past the end nothing is stored
pub sets_past : (t s : List ℕ) (i : ℕ) → length s ≤ i → sets s i t ≡ s
sets_past [] s i h = refl
sets_past (x ∷ t) s i h = ap (λ (l : List ℕ). sets l (suc i) t) (set_out s i x h) ∙ sets_past t s (suc i) (omega (arith, h))

-- a piece that goes where the one before ended
stored-behind : (a b s : List ℕ) (at : ℕ) → sets (sets s at a) (at + min (length a) (length s - at)) b ≡ sets s at (a ++ b)
stored-behind a b s at =
    min_cases (length a) (length s - at) (sets (sets s at a) (at + min (length a) (length s - at)) b ≡ sets s at (a ++ b))
    (λ _ e. ap (λ (n : ℕ). sets (sets s at a) (at + n) b) e ∙ sym (sets_append a b s at))
    (λ le e. ap (λ (n : ℕ). sets (sets s at a) (at + n) b) e
    ∙ sets_past b (sets s at a) (at + (length s - at)) (rw (length-sets s at a) (omega arith))
    ∙ sym (sets_past b (sets s at a) (at + length a) (rw (length-sets s at a) (omega (arith, le))))
    ∙ sym (sets_append a b s at))

-- one text behind another is printed after it
printed_both : (a b : List ℕ) (p : Printer) → printed (a ++ b) p ≡ printed b (printed a p)
unfolding printed
printed_both a b p =
    let s = p.out.now in
    let made : List ℕ → ℕ → Printer = λ l n. record { out = at_last p.out l; at = n } in
    let places : p.at + min (length (a ++ b)) (length s - p.at) ≡ p.at + min (length a) (length s - p.at) + min (length b) (length (sets s p.at a) - (p.at + min (length a) (length s - p.at)))
    = omega (arith, length-append a b, length-sets s p.at a) in
    ap₂ made (sym (stored-behind a b s p.at)) places

-- a piece that was printed behind what was: they are one piece
pub prints_both : (a b : List ℕ) (p q r : Printer) → Prints a p q → Prints b q r → Prints (a ++ b) p r
prints_both a b p q r x y = record { is = y.is ∙ ap (printed b) x.is ∙ sym (printed_both a b p) }

infixl 5 ◌then◌
pub ◌then◌ : {a b : List ℕ} {p q r : Printer} → Prints a p q → Prints b q r → Prints (a ++ b) p r
x then y = prints_both _ _ _ _ _ x y

-- the same text by another name
pub printed_as : {t u : List ℕ} {p q : Printer} → Prints t p q → u ≡ t → Prints u p q
printed_as {p = p} x e = record { is = x.is ∙ ap (λ (l : List ℕ). printed l p) (sym e) }

-- nothing
pub printed_nothing : (p : Printer) → Prints [] p p
unfolding printed
printed_nothing p = record { is = ap (λ (n : ℕ). record { out = p.out; at = n }) (omega arith) }

-- a text of which as much is stored as there is room for
part_stored : (t s : List ℕ) (at n : ℕ) → n ≡ min (length t) (length s - at) → at < length s → sets s at t ≡ put_mid at n s (take n t)
part_stored t s at n e h =
    let front = take n t in
    let size : length front ≡ n = length-take-le n t (omega (arith, e)) in
    ap (sets s at) (sym (take-append-drop n t))
    ∙ sets_append front (drop n t) s at
    ∙ nothing_behind
    ∙ sets_put front s at (omega (arith, size, e, h))
    ∙ sym (mid_put at n s front (sym size))
  where
    nothing_behind : sets (sets s at (take n t)) (at + length (take n t)) (drop n t) ≡ sets s at (take n t)
    nothing_behind =
        min_cases (length t) (length s - at) (sets (sets s at (take n t)) (at + length (take n t)) (drop n t) ≡ sets s at (take n t))
        (λ _ m. ap (λ (l : List ℕ). sets (sets s at (take n t)) (at + length (take n t)) l) (drop_of_length-le t (omega (arith, e, m))))
        (λ _ m. sets_past (drop n t) (sets s at (take n t)) (at + length (take n t)) (rw (length-sets s at (take n t)) (omega (arith, length-take-le n t (omega (arith, e)), e, m, h))))

pub printed_part : (p : Printer) (t : List ℕ) (n : ℕ) → n ≡ min (length t) (length p.out.now - p.at) → p.at < length p.out.now → Prints t p (record { out = at_last p.out (put_mid p.at n p.out.now (take n t)); at = p.at + n })
unfolding printed
printed_part p t n e h = record { is = ap₂ (λ (l : List ℕ) (k : ℕ). record { out = at_last p.out l; at = k }) (sym (part_stored t p.out.now p.at n e h)) (ap (λ (k : ℕ). p.at + k) e) }

pub printed_past : (p : Printer) (t : List ℕ) → length p.out.now ≤ p.at → Prints t p p
unfolding printed
printed_past p t h = record { is = ap₂ (λ (l : List ℕ) (n : ℕ). record { out = at_last p.out l; at = n }) (sym (sets_past t p.out.now p.at h)) (omega (arith, h)) }

-- a text laid from the front on
whole_over : (t s : List ℕ) → length t ≤ length s → sets s 0 t ≡ over t s
unfolding over
whole_over t s h =
    let fits : 0 + length t ≤ length s = omega (arith, h) in
    sets-eq t s 0 fits ∙ ap₂ (λ (l : List ℕ) (n : ℕ). l ++ drop n s) (sym (take_all (length s) t h)) (zero-add (length t))

over-cut : (t s : List ℕ) → length s ≤ length t → over (take (length s) t) s ≡ over t s
unfolding over
over-cut t s h =
    ap₂ (λ (l r : List ℕ). l ++ r) (take-take (length s) (length s) t (omega arith))
    (drop_of_length-le s {i = length (take (length s) t)} (omega (arith, length-take-le (length s) t h)) ∙ sym (drop_of_length-le s h))

cut-over : (t s : List ℕ) → length s ≤ length t → sets s 0 t ≡ over t s
cut-over t s h =
    let n = length s in
    let front = take n t in
    let size : length front ≡ n = length-take-le n t h in
    let past : length (sets s 0 front) ≤ 0 + length front = rw (length-sets s 0 front, size) (omega arith) in
    ap (sets s 0) (sym (take-append-drop n t))
    ∙ sets_append front (drop n t) s 0
    ∙ sets_past (drop n t) (sets s 0 front) (0 + length front) past
    ∙ whole_over front s (omega (arith, size))
    ∙ over-cut t s h

pub whole_laid : (t s : List ℕ) → sets s 0 t ≡ over t s
whole_laid t s = min_cases (length t) (length s) (sets s 0 t ≡ over t s) (λ h _. whole_over t s h) (λ h _. cut-over t s h)

-- all of a text, printed from the front on: the place behind it, and the buffer with the text laid over it
pub prints_all : (x : MutBor (List ℕ)) (t : List ℕ) (p q : Printer) → p ≡ printer_of x → Prints t p q → (q.at ≡ min (length t) (length x.now)) × (q.out.now ≡ over t x.now)
unfolding printed
prints_all x t p q e y =
    let all = y.is ∙ ap (printed t) e in
    (ap (λ (u : Printer). u.at) all ∙ omega arith, ap (λ (u : Printer). u.out.now) all ∙ whole_laid t x.now)

-- the buffer's last bytes: the printer still has the borrow that it began with
pub last_bytes : (x : MutBor (List ℕ)) (t last : List ℕ) (p q : Printer) → p ≡ printer_of x → Prints t p q → (x.ghost_name ≡ q.out.ghost_name → last ≡ q.out.now) → last ≡ over t x.now
unfolding printed
last_bytes x t last p q e y ends = ends (sym (ap (λ (u : Printer). u.out.ghost_name) (y.is ∙ ap (printed t) e))) ∙ (prints_all x t p q e y).1

-- ---- on lists alone

-- the same of a buffer and a place: a piece goes where the one before ended
ends_behind : (a b n at : ℕ) → at + min a (n - at) + min b (n - (at + min a (n - at))) ≡ at + min (a + b) (n - at)
ends_behind a b n at = omega arith

pub wrote_both : (a b s : List ℕ) (at r r' : ℕ) (s' s'' : List ℕ) → Wrote at a s r s' → Wrote r b s' r' s'' → Wrote at (a ++ b) s r' s''
unfolding Wrote
wrote_both a b s at r r' s' s'' (er, es) (er', es') = (
  er' ∙ ap (λ (l : List ℕ). r + min (length b) (length l - r)) es ∙ ap (λ (n : ℕ). r + min (length b) (n - r)) (length-sets s at a)
      ∙ ap (λ (p : ℕ). p + min (length b) (length s - p)) er ∙ ends_behind (length a) (length b) (length s) at
      ∙ ap (λ (n : ℕ). at + min n (length s - at)) (sym (length-append a b)),
  es' ∙ ap (λ (l : List ℕ). sets l r b) es ∙ ap (λ (p : ℕ). sets (sets s at a) p b) er ∙ stored-behind a b s at,
)

pub wrote_all : (t s : List ℕ) (r : ℕ) (s' : List ℕ) → Wrote 0 t s r s' → (r ≡ min (length t) (length s)) × (s' ≡ over t s)
unfolding Wrote
wrote_all t s r s' (er, es) = (er ∙ omega arith, es ∙ whole_laid t s)

-- what a printer prints is what is laid into its buffer
pub prints_wrote : (t : List ℕ) (p q : Printer) → Prints t p q → Wrote p.at t p.out.now q.at q.out.now
unfolding printed Wrote
prints_wrote t p q y = (ap (λ (u : Printer). u.at) y.is, ap (λ (u : Printer). u.out.now) y.is)
