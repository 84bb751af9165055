-- The records of a chain that are whole at a place: the first ones, and those of a later place have them all in front. Where one record is known to
-- be torn there, they are exactly the ones before it.
-- Assumes nothing.
use mathlib.Core.Path.{◌≡◌, refl, sym, ap, subst, ◌∙◌}
use mathlib.Core.Bool.{Bool, true, false}
use mathlib.Core.List.{List, [], ◌∷◌, ◌++◌, append-nil}
use Prim.Native.Nat.{ℕ, ◌+◌, ◌≤◌, ◌<◌}
use native.Mathlib.Omega.{arith}
use lib.Dec.{leb}
use borrow.Author.Tests.{leb-true, leb-false, le-leb, lt-leb}
use Rattle.fields.specs.Fields.{pick}
use Rattle.record.specs.declared.Record.{Record}
use Rattle.std.specs.Prelude.{Ok}
use Rattle.index.specs.Entries.{length_of, bytes_of}
use Rattle.index.proofs.Filing.{bytes-append}
use Rattle.journal.specs.Walk.{stands_at, Chain, nothing, next, end_of}
use Rattle.journal.proofs.Chains.{within}
use Rattle.promises.specs.Shortening.{whole_in}

-- ---- the whole records

module _ (limit m : ℕ) (t : List ℕ) where
  -- no record of a chain that starts past m is whole
  pub none_whole : {p e : ℕ} {rs : List Record} → Chain limit t p rs e → m < p → whole_in m rs ≡ []
  unfolding whole_in
  none_whole nothing h = refl
  none_whole {p} (next {r} s c) h =
      let w = (within limit t p r s).1 in
      rw (lt-leb (r.place + length_of r) m (omega arith)) (none_whole c (omega arith))

  -- the whole records are the first ones
  pub whole_part : {p e : ℕ} {rs : List Record} → Chain limit t p rs e → (ys : List Record) × (rs ≡ whole_in m rs ++ ys)
  unfolding whole_in
  whole_part nothing = ([], refl)
  whole_part {p} (next {r} {rs} s c) = go (leb (r.place + length_of r) m) refl (whole_part c)
    where
      go : (b : Bool) → leb (r.place + length_of r) m ≡ b → ((ys : List Record) × (rs ≡ whole_in m rs ++ ys))
          → (ys : List Record) × (r ∷ rs ≡ pick b (r ∷ whole_in m rs) (whole_in m rs) ++ ys)
      go true q i = (i.0, ap (λ (l : List Record). r ∷ l) i.1)
      go false q i =
          let f = leb-false (r.place + length_of r) m q in
          let w = (within limit t p r s).1 in
          (r ∷ rs, rw (none_whole c (omega arith)))

  -- first records that end at m or before are among them
  pub first_whole : {p e : ℕ} (xs ys : List Record) → Chain limit t p (xs ++ ys) e → p + bytes_of xs ≤ m → whole_in m (xs ++ ys) ≡ xs ++ whole_in m ys
  unfolding whole_in bytes_of
  first_whole [] ys c h = refl
  first_whole {p} (x ∷ xs) ys (next s c) h =
      let w = (within limit t p x s).1 in
      rw (le-leb (x.place + length_of x) m (omega arith)) (ap (λ (l : List Record). x ∷ l) (first_whole {p = p + length_of x} xs ys c (omega arith)))

-- ---- the whole records, at two places

module _ (limit k : ℕ) (t : List ℕ) where
  -- the whole records end at k or before
  pub whole_ends : {p f : ℕ} {rs : List Record} → Chain limit t p rs f → p ≤ k → p + bytes_of (whole_in k rs) ≤ k
  unfolding whole_in bytes_of
  whole_ends nothing h = omega arith
  whole_ends {p} (next {r} {rs} s c) h = go (leb (r.place + length_of r) k) refl (whole_ends c)
    where
      go : (z : Bool) → leb (r.place + length_of r) k ≡ z → (p + length_of r ≤ k → p + length_of r + bytes_of (whole_in k rs) ≤ k)
          → p + bytes_of (pick z (r ∷ whole_in k rs) (whole_in k rs)) ≤ k
      go true q ih =
          let w = (within limit t p r s).1 in
          let x = leb-true (r.place + length_of r) k q in
          let i = ih (omega arith) in
          omega arith
      go false q ih =
          let w = (within limit t p r s).1 in
          let x = leb-false (r.place + length_of r) k q in
          omega (arith, ap bytes_of (none_whole limit k t c (omega arith)))

  -- and are among those of a later place
  pub whole_more : {p f : ℕ} {rs : List Record} (j : ℕ) → Chain limit t p rs f → p ≤ k → k ≤ j → (more : List Record) × (whole_in j rs ≡ whole_in k rs ++ more)
  whole_more {p} {f} {rs} j c h a =
      let x = whole_part limit k t c in
      let d : Chain limit t p (whole_in k rs ++ x.0) f = subst (λ (v : List Record). Chain limit t p v f) x.1 c in
      let e = whole_ends c h in
      (whole_in j x.0, ap (whole_in j) x.1 ∙ first_whole limit j t (whole_in k rs) x.0 d (omega arith))

pub ends_later : (xs ys : List Record) → end_of xs ≤ end_of (xs ++ ys)
unfolding end_of
ends_later xs ys = omega (arith, bytes-append xs ys)

-- ---- a record among others

module _ (limit : ℕ) (t : List ℕ) where
  -- where it stands, and the chain behind it
  pub chain_split : {p f : ℕ} (xs : List Record) (y : Record) (ys : List Record) → Chain limit t p (xs ++ y ∷ ys) f
      → (e : ℕ) × (e ≡ p + bytes_of xs) × (stands_at limit t e ≡ Ok y) × Chain limit t (e + length_of y) ys f
  unfolding bytes_of
  chain_split {p} [] y ys (next s c) = (p, omega arith, s, c)
  chain_split {p} (x ∷ xs) y ys (next s c) =
      let i = chain_split {p = p + length_of x} xs y ys c in
      (i.0, omega (arith, i.1), i.2, i.3)

  -- none of a chain is whole at its start
  pub none-at : {p f : ℕ} {rs : List Record} → Chain limit t p rs f → whole_in p rs ≡ []
  unfolding whole_in
  none-at nothing = refl
  none-at {p} (next {r} s c) =
      let w = (within limit t p r s).1 in
      rw (lt-leb (r.place + length_of r) p (omega arith)) (none_whole limit p t c (omega arith))

  -- where one isn't whole at k, those before it are
  pub whole_before : {p f : ℕ} (k : ℕ) (xs : List Record) (y : Record) (ys : List Record) → Chain limit t p (xs ++ y ∷ ys) f → y.place ≤ k → k < y.place + length_of y
      → whole_in k (xs ++ y ∷ ys) ≡ xs
  unfolding whole_in
  whole_before k xs y ys c h g =
      let i = chain_split xs y ys c in
      let w = (within limit t i.0 y i.2).1 in
      first_whole limit k t xs (y ∷ ys) c (omega (arith, i.1))
      ∙ ap (λ (v : List Record). xs ++ v) (rw (lt-leb (y.place + length_of y) k g) (none_whole limit k t i.3 (omega arith)))
      ∙ append-nil xs

  -- and at its end it is too
  pub whole_through : {p f : ℕ} (xs : List Record) (y : Record) (ys : List Record) → Chain limit t p (xs ++ y ∷ ys) f
      → whole_in (y.place + length_of y) (xs ++ y ∷ ys) ≡ xs ++ y ∷ []
  unfolding whole_in
  whole_through xs y ys c =
      let i = chain_split xs y ys c in
      let w = (within limit t i.0 y i.2).1 in
      let e : i.0 + length_of y ≡ y.place + length_of y = omega arith in
      let n : whole_in (y.place + length_of y) ys ≡ [] = sym (ap (λ (u : ℕ). whole_in u ys) e) ∙ none-at i.3 in
      first_whole limit (y.place + length_of y) t xs (y ∷ ys) c (omega (arith, i.1))
      ∙ ap (λ (v : List Record). xs ++ v) (rw (le-leb (y.place + length_of y) (y.place + length_of y) (omega arith), n) refl)
