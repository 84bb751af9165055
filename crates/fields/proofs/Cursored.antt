-- The two outcomes of a read and of a write at a cursor, at every width.
-- Assumes nothing.
use mathlib.Core.Path.{◌≡◌, refl, sym, ap, ◌∙◌}
use mathlib.Core.Bool.{Bool, true, false}
use mathlib.Core.List.{List}
use Prim.Native.Nat.{ℕ, ◌+◌, ◌≤◌}
use lib.ListN.{length}
use borrow.Author.Tests.{le-leb, leb-true}
use Rattle.fields.specs.Fields.{pick, fits, put}
use Rattle.fields.specs.Cursors.{moved, put_at, after}
use Rattle.fields.specs.Holders.{write_place, wrote}
use Rattle.fields.specs.declared.Cursor.{Cursor}
use Rattle.fields.specs.declared.writing.Writer.{Writer}
use denote.Ref.{at_last}

-- a test that is known picks
pub picked {ℓ} : {A : Type ℓ} (t : Bool) (a b : A) → t ≡ true → a ≡ pick t a b
picked t a b e = rw e

-- n bytes stand at the cursor
module _ (n : ℕ) (s : List ℕ) (c : Cursor) (h : c.at + n ≤ length s) where
  there : fits n s c.at ≡ true
  there = le-leb (c.at + n) (length s) h

  pub goes_after : moved n c ≡ after n s c
  goes_after = picked (fits n s c.at) (moved n c) c there

  pub puts : (v l : List ℕ) → length v ≡ n → l ≡ put v s c.at → (moved n c ≡ after n s c) × (l ≡ put_at v s c)
  puts v l k e = (
    goes_after,
    e ∙ picked (fits (length v) s c.at) (put v s c.at) s (ap (λ (m : ℕ). fits m s c.at) k ∙ there),
  )

-- ---- the list after a write at a cursor: with the bytes put, or as it was

-- what holds of both holds of the list after the write
pub either : (P : List ℕ → Type 0) (v s : List ℕ) (c : Cursor) → P s → (c.at + length v ≤ length s → P (put v s c.at)) → P (put_at v s c)
either P v s c same changed = go (fits (length v) s c.at) refl
  where
    go : (b : Bool) → fits (length v) s c.at ≡ b → P (pick b (put v s c.at) s)
    go true e = changed (leb-true (c.at + length v) (length s) e)
    go false e = same

-- a write that fits puts its bytes
pub fitted : (v s : List ℕ) (c : Cursor) → fits (length v) s c.at ≡ true → put_at v s c ≡ put v s c.at
fitted v s c e = sym (picked (fits (length v) s c.at) (put v s c.at) s e)

-- a writer whose n bytes v were put at its place, and whose place moved on by n, is the writer after v
pub puts_wrote : (n : ℕ) (v l : List ℕ) (w : Writer) (d : Cursor) → length v ≡ n → d ≡ after n w.buffer.now (write_place w) → l ≡ put_at v w.buffer.now (write_place w)
    → record { buffer = at_last w.buffer l; at = d.at } ≡ wrote v w
puts_wrote n v l w d k e f =
    let made : List ℕ → ℕ → Writer = λ l a. record { buffer = at_last w.buffer l; at = a } in
    let s = w.buffer.now in
    ap (λ (m : List ℕ). made m d.at) f ∙ ap (λ (m : Cursor). made (put_at v s (write_place w)) m.at) (e ∙ ap (λ (m : ℕ). after m s (write_place w)) (sym k))
