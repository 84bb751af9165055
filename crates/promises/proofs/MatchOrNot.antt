-- There is a chance match or there is none; and so with a head that lasted in part.
-- Assumes nothing.
use mathlib.Core.Path.{◌≡◌, refl, sym, ap, ◌∙◌}
use mathlib.Core.Bool.{Bool, true, false, ◌&&◌}
use mathlib.Core.List.{List, [], ◌∷◌, ◌++◌}
use mathlib.Core.Logic.{◌⊎◌, inl, inr}
use Prim.Native.Nat.{ℕ, ◌+◌, ◌-◌, ◌≤◌, ◌<◌}
use native.Mathlib.Omega.{arith}
use lib.ListN.{length, get_or, take, drop, length-append, length-take, get_or-eq_default}
use lib.Seq.{get_or-take, get_or-drop}
use lib.Dec.{leb, ltb, eqb}
use borrow.Author.Tests.{leb-true, leb-false, ltb-true, ltb-false, eqb-true, le-leb, lt-ltb, eq-eqb}
use Rattle.crc32.specs.Crc.{crc_of}
use Rattle.fields.proofs.Picks.{and-true}
use Rattle.fields.proofs.Zeroed.{zeros_or_not}
use Rattle.record.specs.declared.Record.{Record}
use Rattle.record.specs.Seen.{head_length, crc_field, body_in}
use Rattle.index.specs.Entries.{length_of}
use Rattle.promises.specs.Lost.{lost_to, HeadInPart, ChanceMatch}

-- ---- a chance match

module _ (s : List ℕ) (k m : ℕ) where
  hits : Record → Bool
  hits r =
      leb (r.place + 8) k
      && (ltb k (r.place + length_of r)
      && (leb (r.place + length_of r) m
      && eqb (crc_of (body_in (drop r.place (lost_to k m s)))) (crc_field (drop r.place (lost_to k m s)))))

  was_hit : {rs : List Record} (x : ChanceMatch s rs k m) → hits x.torn ≡ true
  unfolding hits
  was_hit x =
      let r = x.torn in
      rw (
        le-leb (r.place + 8) k x.head_lasted,
        lt-ltb k (r.place + length_of r) x.not_whole,
        le-leb (r.place + length_of r) m x.ends,
        eq-eqb (crc_of (body_in (drop r.place (lost_to k m s)))) (crc_field (drop r.place (lost_to k m s))) x.agrees,
      ) refl

  is_hit : (r : Record) (rs : List Record) → hits r ≡ true → ChanceMatch s (r ∷ rs) k m
  unfolding hits
  is_hit r rs e =
      let a = and-true (leb (r.place + 8) k) _ e in
      let b = and-true (ltb k (r.place + length_of r)) _ a.1 in
      let c = and-true (leb (r.place + length_of r) m) _ b.1 in
      record {
        before = [];
        torn = r;
        after = rs;
        among = refl;
        head_lasted = leb-true (r.place + 8) k a.0;
        not_whole = ltb-true k (r.place + length_of r) b.0;
        ends = leb-true (r.place + length_of r) m c.0;
        agrees = eqb-true (crc_of (body_in (drop r.place (lost_to k m s)))) (crc_field (drop r.place (lost_to k m s))) c.1;
      }

  one_more : (r : Record) (rs : List Record) → ChanceMatch s rs k m → ChanceMatch s (r ∷ rs) k m
  one_more r rs x =
      record {
        before = r ∷ x.before;
        torn = x.torn;
        after = x.after;
        among = ap (λ (v : List Record). r ∷ v) x.among;
        head_lasted = x.head_lasted;
        not_whole = x.not_whole;
        ends = x.ends;
        agrees = x.agrees;
      }

  among_both : (r : Record) (rs before after : List Record) (torn : Record) → r ∷ rs ≡ before ++ torn ∷ after
      → (r ≡ torn) ⊎ ((more : List Record) × (rs ≡ more ++ torn ∷ after))
  among_both r rs [] after torn e = inl cc
  among_both r rs (b ∷ before) after torn e = inr (before, cc)

  pub match_or_not : (rs : List Record) → ChanceMatch s rs k m ⊎ (ChanceMatch s rs k m → ⊥)
  match_or_not [] = inr (λ x. omega (arith, ap length x.among, length-append x.before (x.torn ∷ x.after)))
  match_or_not (r ∷ rs) = go (hits r) refl (match_or_not rs)
    where
      none : hits r ≡ false → (ChanceMatch s rs k m → ⊥) → (x : ChanceMatch s (r ∷ rs) k m) → (r ≡ x.torn) ⊎ ((more : List Record) × (rs ≡ more ++ x.torn ∷ x.after)) → ⊥
      none z n x (inl e) = let y : true ≡ false = sym (was_hit x) ∙ sym (ap hits e) ∙ z in let v : ◌≡◌ {A = ℕ} 0 1 = cc in omega arith
      none z n x (inr e) =
          n (record {
            before = e.0;
            torn = x.torn;
            after = x.after;
            among = e.1;
            head_lasted = x.head_lasted;
            not_whole = x.not_whole;
            ends = x.ends;
            agrees = x.agrees;
          })

      go : (z : Bool) → hits r ≡ z → ChanceMatch s rs k m ⊎ (ChanceMatch s rs k m → ⊥) → ChanceMatch s (r ∷ rs) k m ⊎ (ChanceMatch s (r ∷ rs) k m → ⊥)
      go true z i = inl (is_hit r rs z)
      go false z (inl x) = inl (one_more r rs x)
      go false z (inr n) = inr (λ x. none z n x (among_both r rs x.before x.after x.torn x.among))

-- ---- a head in part

module _ (s : List ℕ) (k e m : ℕ) where
  -- the bytes from e to k
  abbrev lasted_bytes : List ℕ
  lasted_bytes = take (k - e) (drop e s)

  byte_there : (i : ℕ) → i < k - e → get_or lasted_bytes i 0 ≡ get_or s (e + i) 0
  byte_there i h = get_or-take (k - e) (drop e s) i 0 h ∙ get_or-drop e s i 0

  in_head_case : k < e + 8 → e + head_length ≤ m
      → ((i : ℕ) → i < length lasted_bytes → get_or lasted_bytes i 0 ≡ 0) ⊎ ((i : ℕ) × (i < length lasted_bytes) × (get_or lasted_bytes i 0 ≡ 0 → ⊥))
      → HeadInPart s k e m ⊎ (HeadInPart s k e m → ⊥)
  in_head_case a b (inl z) = inr (λ p. p.not_zero (zero_there p.byte p.behind p.lasted))
    where
      all-zero : (i : ℕ) → get_or lasted_bytes i 0 ≡ 0
      all-zero i = go (ltb i (length lasted_bytes)) refl
        where
          go : (b : Bool) → ltb i (length lasted_bytes) ≡ b → get_or lasted_bytes i 0 ≡ 0
          go true q = z i (ltb-true i (length lasted_bytes) q)
          go false q = get_or-eq_default lasted_bytes 0 (ltb-false i (length lasted_bytes) q)

      zero_there : (i : ℕ) → e ≤ i → i < k → get_or s i 0 ≡ 0
      zero_there i f g =
          let n : e + (i - e) ≡ i = omega arith in
          sym (ap (λ (v : ℕ). get_or s v 0) n) ∙ sym (byte_there (i - e) (omega arith)) ∙ all-zero (i - e)
  in_head_case a b (inr y) =
      let h : y.0 < k - e = omega (arith, y.1, length-take (k - e) (drop e s)) in
      inl (record {
        in_head = a;
        long = b;
        byte = e + y.0;
        behind = omega arith;
        lasted = omega arith;
        not_zero = λ g. y.2 (byte_there y.0 h ∙ g);
      })

  pub head-or-not : HeadInPart s k e m ⊎ (HeadInPart s k e m → ⊥)
  head-or-not = first (ltb k (e + 8)) refl
    where
      second : k < e + 8 → (b : Bool) → leb (e + head_length) m ≡ b → HeadInPart s k e m ⊎ (HeadInPart s k e m → ⊥)
      second a true q = in_head_case a (leb-true (e + head_length) m q) (zeros_or_not lasted_bytes)
      second a false q = let n = leb-false (e + head_length) m q in inr (λ p. omega (arith, p.long))

      first : (b : Bool) → ltb k (e + 8) ≡ b → HeadInPart s k e m ⊎ (HeadInPart s k e m → ⊥)
      first true q = second (ltb-true k (e + 8) q) (leb (e + head_length) m) refl
      first false q = let n = ltb-false k (e + 8) q in inr (λ p. omega (arith, p.in_head))
