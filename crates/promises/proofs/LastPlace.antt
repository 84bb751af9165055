-- The last place of a loss: the bytes left are the same; those between the place and it were 0, and where it isn't the new length, the byte that stood
-- there isn't.
-- Assumes nothing.
use mathlib.Core.Path.{◌≡◌, refl, sym, ap, ap₂, ◌∙◌}
use mathlib.Core.Bool.{Bool, true, false}
use mathlib.Core.List.{List, [], ◌∷◌, ◌++◌, append_assoc}
use Prim.Native.Nat.{ℕ, suc, ◌+◌, ◌-◌, ◌≤◌, ◌<◌}
use native.Mathlib.Omega.{arith}
use lib.Dec.{eqb}
use lib.ListN.{length, get_or, take, drop, replicate, length-drop, replicate-append-replicate}
use lib.Seq.{length-take-le, get_or-take, get_or-drop, take-take, take-add}
use borrow.Author.Tests.{eqb-true, eqb-false}
use Rattle.fields.specs.Fields.{pick}
use Rattle.fields.proofs.Zeroed.{get_or_zeros}
use Rattle.promises.specs.Lost.{lost_to, zeros_first, last_place}

-- ---- the zeros at the start

pub first_most : (q : List ℕ) → zeros_first q ≤ length q
unfolding zeros_first
first_most [] = omega arith
first_most (b ∷ q) = go (eqb b 0) (first_most q)
  where
    go : (x : Bool) → zeros_first q ≤ length q → pick x (suc (zeros_first q)) 0 ≤ length (b ∷ q)
    go true i = omega arith
    go false i = omega arith

pub first_zeros : (q : List ℕ) → take (zeros_first q) q ≡ replicate (zeros_first q) 0
unfolding zeros_first
first_zeros [] = refl
first_zeros (b ∷ q) = go (eqb b 0) refl (first_zeros q)
  where
    go : (x : Bool) → eqb b 0 ≡ x → take (zeros_first q) q ≡ replicate (zeros_first q) 0 → take (pick x (suc (zeros_first q)) 0) (b ∷ q) ≡ replicate (pick x (suc (zeros_first q)) 0) 0
    go true e i = ap₂ (λ (c : ℕ) (l : List ℕ). c ∷ l) (eqb-true b 0 e) i
    go false e i = refl

pub first_ends : (q : List ℕ) → zeros_first q < length q → get_or q (zeros_first q) 0 ≡ 0 → ⊥
unfolding zeros_first
first_ends [] h e = omega arith
first_ends (b ∷ q) h e = go (eqb b 0) refl (first_ends q) h e
  where
    go : (x : Bool) → eqb b 0 ≡ x → (zeros_first q < length q → get_or q (zeros_first q) 0 ≡ 0 → ⊥)
        → pick x (suc (zeros_first q)) 0 < length (b ∷ q) → get_or (b ∷ q) (pick x (suc (zeros_first q)) 0) 0 ≡ 0 → ⊥
    go true z i h e = i (omega arith) e
    go false z i h e = eqb-false b 0 z e

-- two runs of zeros are one
joined : (a b c : ℕ) → a + b ≡ c → ◌≡◌ {A = List ℕ} (replicate a 0 ++ replicate b 0) (replicate c 0)
joined a b c e = replicate-append-replicate a b 0 ∙ ap (λ (i : ℕ). replicate i 0) e

-- ---- the last place

module _ (k m : ℕ) (s : List ℕ) (h : k ≤ m) (l : m ≤ length s) where
  part_length : length (take (m - k) (drop k s)) ≡ m - k
  part_length = length-take-le (m - k) (drop k s) (omega (arith, length-drop k s))

  pub not_before : k ≤ last_place k m s
  unfolding last_place
  not_before = omega arith

  pub not_past : last_place k m s ≤ m
  unfolding last_place
  not_past = omega (arith, first_most (take (m - k) (drop k s)), part_length)

  -- the bytes left are the same
  pub same_left : lost_to k m s ≡ lost_to (last_place k m s) m s
  unfolding last_place
  same_left =
      let z : ℕ = zeros_first (take (m - k) (drop k s)) in
      let b : z ≤ m - k = omega (arith, first_most (take (m - k) (drop k s)), part_length) in
      let e : take z (drop k s) ≡ replicate z 0 = sym (take-take z (m - k) (drop k s) b) ∙ first_zeros (take (m - k) (drop k s)) in
      let n : z + (m - (k + z)) ≡ m - k = omega arith in
      let y = joined z (m - (k + z)) (m - k) n in
      sym (ap (λ (x : List ℕ). x ++ replicate (m - (k + z)) 0) (take-add k z s ∙ ap (λ (x : List ℕ). take k s ++ x) e)
      ∙ append_assoc (take k s) (replicate z 0) (replicate (m - (k + z)) 0)
      ∙ ap (λ (x : List ℕ). take k s ++ x) y)

  -- a byte that isn't 0 was lost there
  pub was_lost : last_place k m s < m → get_or s (last_place k m s) 0 ≡ 0 → ⊥
  unfolding last_place
  was_lost a e =
      let z : ℕ = zeros_first (take (m - k) (drop k s)) in
      let b : z < m - k = omega arith in
      first_ends (take (m - k) (drop k s)) (omega (arith, part_length)) (get_or-take (m - k) (drop k s) z 0 b ∙ get_or-drop k s z 0 ∙ e)

  -- and what stood before it was 0
  pub was_zero : (i : ℕ) → k ≤ i → i < last_place k m s → get_or s i 0 ≡ 0
  unfolding last_place
  was_zero i a b =
      let q : List ℕ = take (m - k) (drop k s) in
      let z : ℕ = zeros_first q in
      let most = first_most q in
      let n : k + (i - k) ≡ i = omega arith in
      let c : get_or q (i - k) 0 ≡ get_or s i 0 =
      get_or-take (m - k) (drop k s) (i - k) 0 (omega (arith, part_length)) ∙ get_or-drop k s (i - k) 0 ∙ ap (λ (v : ℕ). get_or s v 0) n
      in
      sym c ∙ sym (get_or-take z q (i - k) 0 (omega arith)) ∙ ap (λ (v : List ℕ). get_or v (i - k) 0) (first_zeros q) ∙ get_or_zeros z (i - k)
