-- The laws of fields at a cursor, at every width and for runs of bytes: nothing outside the field changes, an untouched place reads as before,
-- and what was written is read back. A write that doesn't fit is among them: it changes nothing.
-- Assumes nothing.
use denote.Ref.{as_bor}
use mathlib.Core.Path.{◌≡◌, refl, ap, ◌∙◌}
use mathlib.Core.Bool.{true}
use mathlib.Core.List.{List}
use mathlib.Core.Logic.{◌⊎◌, ⊎_elim}
use Prim.Native.Nat.{ℕ, ◌+◌, ◌^◌, ◌≤◌, ◌<◌}
use native.Mathlib.Nat.{mod-eq_of_lt}
use native.Mathlib.Omega.{arith}
use lib.ListN.{length, get_or}
use borrow.Author.Tests.{leb-true}
use Rattle.fields.specs.Fields.{le, le_bytes, fits}
use Rattle.fields.specs.Cursors.{moved, taken, run_at, put_at}
use Rattle.fields.specs.Holders.{read_on, write_place, wrote}
use Rattle.fields.specs.declared.Cursor.{Cursor}
use Rattle.fields.specs.declared.writing.Writer.{Writer}
use Rattle.fields.proofs.Widths.{le_bytes-length}
use Rattle.fields.proofs.Put.{put-length, put_before, put-behind, le_before, le-behind, put-part, put-le}
use Rattle.fields.proofs.Cursored.{either, fitted}

-- the list keeps its length
pub same_length : (v s : List ℕ) (c : Cursor) → length (put_at v s c) ≡ length s
same_length v s c = either (λ (l : List ℕ). length l ≡ length s) v s c refl (λ h. put-length v s c.at h)

-- a byte before the field, or behind it, is what it was
pub outside : (v s : List ℕ) (c : Cursor) (k : ℕ) → (k < c.at) ⊎ (c.at + length v ≤ k) → get_or (put_at v s c) k 0 ≡ get_or s k 0
outside v s c k away =
    either (λ (l : List ℕ). get_or l k 0 ≡ get_or s k 0) v s c refl
    (λ h. ⊎_elim (λ w. put_before v s c.at k (omega arith) w) (λ w. put-behind v s c.at k (omega arith) w) away)

-- and so is the number of m bytes that stand there
pub le_outside : (m : ℕ) (v s : List ℕ) (c : Cursor) (q : ℕ) → (q + m ≤ c.at) ⊎ (c.at + length v ≤ q) → le m (put_at v s c) q ≡ le m s q
le_outside m v s c q away =
    either (λ (l : List ℕ). le m l q ≡ le m s q) v s c refl
    (λ h. ⊎_elim (λ w. le_before m v s c.at q (omega arith) w) (λ w. le-behind m v s c.at q (omega arith) w) away)

-- a read that doesn't meet the field answers what it did
pub untouched : {A : Type 0} (m : ℕ) (value : ℕ → Cursor → A) (nothing : A) (v s : List ℕ) (c d : Cursor) → (d.at + m ≤ c.at) ⊎ (c.at + length v ≤ d.at)
    → taken m (value (le m (put_at v s c) d.at)) nothing (put_at v s c) d ≡ taken m (value (le m s d.at)) nothing s d
untouched m value nothing v s c d away = rw (le_outside m v s c d.at away, same_length v s c)

-- a number that was written is read back
pub number_back : {A : Type 0} (n x : ℕ) (value : ℕ → Cursor → A) (nothing : A) (s : List ℕ) (c : Cursor) → x < 256 ^ n → fits n s c.at ≡ true
    → taken n (value (le n (put_at (le_bytes n x) s c) c.at)) nothing (put_at (le_bytes n x) s c) c ≡ value x (moved n c)
number_back n x value nothing s c small e =
    let v = le_bytes n x in
    let size : fits (length v) s c.at ≡ true = ap (λ (m : ℕ). fits m s c.at) (le_bytes-length n x) ∙ e in
    let room : c.at ≤ length s = omega (arith, leb-true (c.at + n) (length s) e) in
    let back : le n (put_at v s c) c.at ≡ x = ap (λ (l : List ℕ). le n l c.at) (fitted v s c size) ∙ put-le n x s c.at room ∙ mod-eq_of_lt small in
    rw (back, same_length v s c, e)

-- a run of bytes that was written is read back
pub run_back : (v s : List ℕ) (c : Cursor) → fits (length v) s c.at ≡ true → run_at (length v) (put_at v s c) c ≡ v
run_back v s c e =
    let room : c.at ≤ length s = omega (arith, leb-true (c.at + length v) (length s) e) in
    rw (same_length v s c, e) (put-part v s c.at room)

-- what a writer puts, a reader of the same bytes at the same place reads, and both stand behind it
pub written_read : {A : Type 0} (n x : ℕ) (value : ℕ → Cursor → A) (nothing : A) (w : Writer) → x < 256 ^ n → fits n w.buffer.now w.at ≡ true
    → (taken n (value (le n (wrote (le_bytes n x) w).buffer.now w.at)) nothing (wrote (le_bytes n x) w).buffer.now (write_place w) ≡ value x (moved n (write_place w)))
    × ((read_on n (record { bytes = as_bor (wrote (le_bytes n x) w).buffer; at = w.at })).at ≡ (wrote (le_bytes n x) w).at)
written_read n x value nothing w small e =
    let s = w.buffer.now in
    (number_back n x value nothing s (write_place w) small e, rw (same_length (le_bytes n x) s (write_place w), le_bytes-length n x))
