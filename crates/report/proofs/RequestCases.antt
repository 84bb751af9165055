-- Which refusal a request has of itself, from facts on its kind and its length, and what stands where there is none.
-- Assumes nothing.
use mathlib.Core.Path.{◌≡◌, refl, sym, ap, ap₂, ◌∙◌}
use mathlib.Core.Bool.{Bool, true, false}
use mathlib.Core.List.{List, [], ◌∷◌}
use Prim.Native.Nat.{ℕ, ◌+◌, ◌-◌, ◌≤◌, ◌<◌}
use native.Mathlib.Omega.{arith}
use lib.Dec.{ltb, leb, lit≤}
use lib.ListN.{length, drop, length-drop}
use borrow.Author.Tests.{ltb-false, lt-ltb, le-ltb, eq-eqb, ne_eqb, leb-true, leb-false}
use Rattle.std.specs.Prelude.{Some, None}
use Rattle.fields.specs.Fields.{pick, le}
use Rattle.fields.proofs.Picks.{pick_right, or-true}
use Rattle.journal.specs.declared.Rule.TheVariants.{Tail, Anywhere, Salvage}
use Rattle.refusals.specs.declared.Reason.TheVariants.{Unknown, LongJournal}
use Rattle.report.specs.declared.requests.Request.{Request}
use Rattle.report.specs.Request.{kind_in, head_of, rule_in, limit_in, journal_in, unknown_or_short, request_fault}
use denote.Ref.{Bor}
use Rattle.fields.specs.declared.reading.Reader.{Reader}
use Rattle.fields.specs.Holders.{reader_of, read_place, read_on}
use Rattle.fields.specs.declared.Cursor.{Cursor}
use Rattle.fields.specs.Cursors.{taken, moved}
use Rattle.report.specs.Steps.{Parts, Asks, Refuses}

pub fault_unknown : (s : List ℕ) → head_of (kind_in s) ≡ 0 → request_fault s ≡ 28
unfolding request_fault unknown_or_short
fault_unknown s e = rw (eq-eqb _ _ e)

journal_length : (s : List ℕ) → length (journal_in s) ≡ length s - head_of (kind_in s)
unfolding journal_in
journal_length s = length-drop (head_of (kind_in s)) s

pub fault_long : (s : List ℕ) → (head_of (kind_in s) ≡ 0 → ⊥) → head_of (kind_in s) ≤ length s → 65536 < length s - head_of (kind_in s) → request_fault s ≡ 29
unfolding request_fault unknown_or_short
fault_long s n l h = rw (ne_eqb _ _ n, le-ltb _ _ l, journal_length s, lt-ltb _ _ h)

-- where the request has no refusal of its own, its journal has room
28-not-0 : ◌≡◌ {A = ℕ} 28 0 → ⊥
28-not-0 e = omega (arith, e)

29-not-0 : ◌≡◌ {A = ℕ} 29 0 → ⊥
29-not-0 e = omega (arith, e)

pub sound_size : (s : List ℕ) → request_fault s ≡ 0 → length (journal_in s) ≤ 65536
unfolding request_fault
sound_size s e =
    let known = pick_right (unknown_or_short s) 28 (pick (ltb 65536 (length (journal_in s))) 29 0) 0 28-not-0 e in
    ltb-false _ _ (pick_right (ltb 65536 (length (journal_in s))) 29 0 0 29-not-0 known.1).0

-- ---- what taking a request apart comes to

-- a reader of these bytes, at this place
pub record At (s : List ℕ) (p : ℕ) (r : Reader) : Type 0 where
  pub bytes : r.bytes.now ≡ s
  pub at : r.at ≡ p

pub front : (b : Bor (List ℕ)) (r : Reader) → r ≡ reader_of b → At b.now 0 r
front b r e = record { bytes = ap (λ (x : Reader). x.bytes.now) e; at = ap (λ (x : Reader). x.at) e }

-- a field that was there, and the reader behind it
pub record Got (n : ℕ) (s : List ℕ) (p x : ℕ) (r : Reader) : Type 0 where
  pub is : x ≡ le n s p
  pub room : p + n ≤ length s
  pub on : At s (p + n) r

got_by : (n : ℕ) (s : List ℕ) (p x : ℕ) (q r : Reader) (b : Bool) → leb (q.at + n) (length q.bytes.now) ≡ b → At s p q
    → r ≡ record { bytes = q.bytes; at = (pick {A = Cursor} b (moved n (read_place q)) (read_place q)).at } → Some x ≡ pick b (Some (le n q.bytes.now q.at)) None → Got n s p x r
got_by n s p x q r true e a m h =
    let is : x ≡ le n q.bytes.now q.at = cc in
    record {
      is = is ∙ ap₂ (λ (t : List ℕ) (k : ℕ). le n t k) a.bytes a.at;
      room = omega (arith, leb-true _ _ e, a.at, ap length a.bytes);
      on = record { bytes = ap (λ (y : Reader). y.bytes.now) m ∙ a.bytes; at = ap (λ (y : Reader). y.at) m ∙ ap (λ (k : ℕ). k + n) a.at };
    }
got_by n s p x q r false e a m h = cc

pub got : (n : ℕ) (s : List ℕ) (p x : ℕ) (q r : Reader) → At s p q → r ≡ read_on n q → Some x ≡ taken n (λ _. Some (le n q.bytes.now q.at)) None q.bytes.now (read_place q) → Got n s p x r
got n s p x q r a m h = got_by n s p x q r (leb (q.at + n) (length q.bytes.now)) refl a m h

-- one that wasn't
lost_by : (n : ℕ) (s : List ℕ) (p : ℕ) (b : Bool) → leb (p + n) (length s) ≡ b → None ≡ pick b (Some (le n s p)) None → length s < p + n
lost_by n s p true e h = cc
lost_by n s p false e h = leb-false _ _ e

pub lost : (n : ℕ) (s : List ℕ) (p : ℕ) (q : Reader) → At s p q → None ≡ taken n (λ _. Some (le n q.bytes.now q.at)) None q.bytes.now (read_place q) → length s < p + n
lost n s p q a h =
    let has : None ≡ pick (leb (p + n) (length s)) (Some (le n s p)) None = rw (a.bytes, a.at) at h in
    lost_by n s p (leb (p + n) (length s)) refl has

pub same_place : {s : List ℕ} {p : ℕ} {q r : Reader} → At s p q → r ≡ q → At s p r
same_place a e = record { bytes = ap (λ (y : Reader). y.bytes.now) e ∙ a.bytes; at = ap (λ (y : Reader). y.at) e ∙ a.at }

-- the first byte is the kind
pub kind_got : (s : List ℕ) (k : ℕ) (r : Reader) → Got 1 s 0 k r → kind_in s ≡ k
unfolding kind_in le
kind_got s k r g = omega (arith, g.is)

short : (s : List ℕ) → length s < head_of (kind_in s) → unknown_or_short s ≡ true
unfolding unknown_or_short
short s l = rw (lt-ltb _ _ l, or-true)

pub short_tail : (s : List ℕ) (k : ℕ) → kind_in s ≡ k → k ≡ 1 → length s < 17 → unknown_or_short s ≡ true
unfolding head_of
short_tail s k e one l = short s (rw (e, one) l)

pub short_anywhere : (s : List ℕ) (k : ℕ) → kind_in s ≡ k → k ≡ 2 → length s < 9 → unknown_or_short s ≡ true
unfolding head_of
short_anywhere s k e two l = short s (rw (e, two) l)

pub short_salvage : (s : List ℕ) (k : ℕ) → kind_in s ≡ k → k ≡ 3 → length s < 9 → unknown_or_short s ≡ true
unfolding head_of
short_salvage s k e three l = short s (rw (e, three) l)

pub no_kind : (s : List ℕ) (k : ℕ) → kind_in s ≡ k → (k ≡ 1 → ⊥) → (k ≡ 2 → ⊥) → (k ≡ 3 → ⊥) → unknown_or_short s ≡ true
unfolding unknown_or_short head_of
no_kind s k e a b c = rw (e, ne_eqb _ _ a, ne_eqb _ _ b, ne_eqb _ _ c)

pub no_byte : (s : List ℕ) → length s < 1 → unknown_or_short s ≡ true
unfolding unknown_or_short head_of kind_in
no_byte [] l = refl
no_byte (x ∷ s) l = absurd (omega (arith, l))

-- the parts are the definitions'
parts : (s : List ℕ) (h : ℕ) (r : Request) → head_of (kind_in s) ≡ h → 0 < h → h ≤ length s → r.rule ≡ rule_in s → r.limit ≡ limit_in s → r.journal.now ≡ drop h s → Parts s r
unfolding unknown_or_short journal_in
parts s h r e some l er el ej = record {
  known = rw (e, ne_eqb h 0 (λ z. omega (arith, z, some)), le-ltb _ _ l);
  rule = er;
  limit = el;
  journal = rw e ej;
}

rest_of : {s : List ℕ} {p : ℕ} {q : Reader} (l : List ℕ) → At s p q → l ≡ drop q.at q.bytes.now → l ≡ drop p s
rest_of l a e = e ∙ ap₂ (λ (n : ℕ) (t : List ℕ). drop n t) a.at a.bytes

pub parts_tail : (s : List ℕ) (k n : ℕ) (q t : Reader) (r : Request) → kind_in s ≡ k → k ≡ 1 → Got 8 s 1 n q → Got 8 s 9 r.limit t → r.rule ≡ Tail n → r.journal.now ≡ drop t.at t.bytes.now → Parts s r
unfolding head_of rule_in limit_in
parts_tail s k n q t r e one gn gl er ej = parts s 17 r (rw (e, one)) (lit≤ tt) gl.room (rw (e, one, er, gn.is)) (rw (e, one, gl.is)) (rest_of _ gl.on ej)

pub parts_anywhere : (s : List ℕ) (k : ℕ) (t : Reader) (r : Request) → kind_in s ≡ k → k ≡ 2 → Got 8 s 1 r.limit t → r.rule ≡ Anywhere → r.journal.now ≡ drop t.at t.bytes.now → Parts s r
unfolding head_of rule_in limit_in
parts_anywhere s k t r e two gl er ej = parts s 9 r (rw (e, two)) (lit≤ tt) gl.room (rw (e, two, er)) (rw (e, two, gl.is)) (rest_of _ gl.on ej)

pub parts_salvage : (s : List ℕ) (k : ℕ) (t : Reader) (r : Request) → kind_in s ≡ k → k ≡ 3 → Got 8 s 1 r.limit t → r.rule ≡ Salvage → r.journal.now ≡ drop t.at t.bytes.now → Parts s r
unfolding head_of rule_in limit_in
parts_salvage s k t r e three gl er ej = parts s 9 r (rw (e, three)) (lit≤ tt) gl.room (rw (e, three, er)) (rw (e, three, gl.is)) (rest_of _ gl.on ej)

pub asks : (s : List ℕ) (r : Request) → Parts s r → length r.journal.now ≤ 65536 → Asks s r
unfolding request_fault
asks s r p l = record {
  sound = rw (p.known, sym p.journal, le-ltb _ _ l);
  rule = p.rule;
  limit = p.limit;
  journal = p.journal;
}

pub long : (s : List ℕ) (r : Request) → Parts s r → 65536 < length r.journal.now → Refuses s LongJournal
unfolding request_fault
long s r p l =
    let e : request_fault s ≡ 29 = rw (p.known, sym p.journal, lt-ltb _ _ l) in
    record { fault = λ z. omega (arith, z, e); number = sym e }

pub unknown : (s : List ℕ) → unknown_or_short s ≡ true → Refuses s Unknown
unfolding request_fault
unknown s u =
    let e : request_fault s ≡ 28 = rw u in
    record { fault = λ z. omega (arith, z, e); number = sym e }
