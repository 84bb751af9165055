-- The records that lasted are a chain of the bytes left. Behind it nothing is left, or stood a record that was torn.
-- Assumes nothing.
use mathlib.Core.Path.{◌≡◌, refl, ap, ◌∙◌}
use mathlib.Core.Bool.{Bool, true, false}
use mathlib.Core.List.{List, ◌∷◌, ◌++◌}
use mathlib.Core.Logic.{◌⊎◌, inl, inr}
use Prim.Native.Nat.{ℕ, ◌+◌, ◌-◌, ◌≤◌, ◌<◌}
use native.Mathlib.Omega.{arith}
use lib.ListN.{length, length-drop}
use lib.Dec.{leb}
use borrow.Author.Tests.{leb-true, leb-false}
use Rattle.fields.proofs.Zeroed.{zeroed, drop-zeroed}
use Rattle.prefix.specs.Prefix.{prefix_length}
use Rattle.record.specs.declared.Record.{Record}
use Rattle.std.specs.Prelude.{Ok}
use Rattle.record.specs.Seen.{seen}
use Rattle.record.proofs.Zeroed.{stays}
use Rattle.index.specs.Entries.{length_of}
use Rattle.journal.specs.Walk.{rest, stands_at, Chain, nothing, next}
use Rattle.journal.proofs.Chains.{within}
use Rattle.promises.specs.Shortening.{whole_in}
use Rattle.promises.proofs.WholeRecords.{none_whole}

-- t is all bytes after the prefix, k the place and m the new length
module _ (limit k m : ℕ) (t : List ℕ) where
  abbrev pub left : List ℕ
  left = zeroed (k - prefix_length) (m - k) t

  -- the record that was torn: it stood at the end of those that lasted
  pub record Torn (rs : List Record) (place : ℕ) : Type 0 where
    pub torn : Record
    pub after : List Record
    pub among : rs ≡ whole_in k rs ++ torn ∷ after
    pub stood : stands_at limit t place ≡ Ok torn
    pub not_whole : k < place + length_of torn

  -- the records that lasted are a chain of the bytes left; behind it nothing is left, or a record was torn
  pub record Lasted (p : ℕ) (rs : List Record) : Type 0 where
    pub place : ℕ
    pub chain : Chain limit left p (whole_in k rs) place
    pub inside : place ≤ k
    pub then : (m ≡ place) ⊎ Torn rs place

module _ (limit k m : ℕ) (t : List ℕ) (h : prefix_length ≤ k) (l : k - prefix_length ≤ length t) where
  pub rest-left : (p : ℕ) → prefix_length ≤ p → p ≤ k → rest (left limit k m t) p ≡ zeroed (k - p) (m - k) (rest t p)
  rest-left p a b =
      let n : k - prefix_length - (p - prefix_length) ≡ k - p = omega arith in
      drop-zeroed (p - prefix_length) (k - prefix_length) (m - k) t (omega arith) l ∙ ap (λ (j : ℕ). zeroed j (m - k) (rest t p)) n

  pub rest_long : (p : ℕ) → prefix_length ≤ p → p ≤ k → k - p ≤ length (rest t p)
  rest_long p a b = omega (arith, length-drop (p - prefix_length) t)

  pub lasted : {p f : ℕ} {rs : List Record} → Chain limit t p rs f → prefix_length ≤ p → p ≤ k → k ≤ m → m ≤ f → Lasted limit k m t p rs
  unfolding whole_in stands_at
  lasted {p} nothing a b c d = record { place = p; chain = nothing; inside = b; then = inl (omega arith) }
  lasted {p} {f} (next {r} {rs} s ch) a b c d = go (leb (r.place + length_of r) k) refl (lasted ch)
    where
      go : (z : Bool) → leb (r.place + length_of r) k ≡ z → (prefix_length ≤ p + length_of r → p + length_of r ≤ k → k ≤ m → m ≤ f → Lasted limit k m t (p + length_of r) rs) → Lasted limit k m t p (r ∷ rs)
      go true q ih =
          let w = (within limit t p r s).1 in
          let x = leb-true (r.place + length_of r) k q in
          let i = ih (omega arith) (omega arith) c d in
          let head : seen limit p (rest (left limit k m t) p) ≡ Ok r = rw (rest-left p a b) (stays limit p (k - p) (m - k) (rest t p) r s (rest_long p a b) (omega arith)) in
          record { place = i.place; chain = rw q (next head i.chain); inside = i.inside; then = more i.then }
        where
          more : {e : ℕ} → (m ≡ e) ⊎ Torn limit k m t rs e → (m ≡ e) ⊎ Torn limit k m t (r ∷ rs) e
          more (inl x) = inl x
          more (inr x) = inr (record { torn = x.torn; after = x.after; among = rw q (ap (λ (v : List Record). r ∷ v) x.among); stood = x.stood; not_whole = x.not_whole })
      go false q ih =
          let w = (within limit t p r s).1 in
          let x = leb-false (r.place + length_of r) k q in
          let n = none_whole limit k t ch (omega arith) in
          record {
            place = p;
            chain = rw (q, n) nothing;
            inside = b;
            then = inr (record { torn = r; after = rs; among = rw (q, n) refl; stood = s; not_whole = omega arith });
          }
