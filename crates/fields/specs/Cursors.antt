-- Fields at a cursor: a read past the end takes nothing, and a write past the end writes nothing.
-- Assumes nothing.
use Rattle.std.specs.Prelude.{ℕ, ◌+◌, List, [], length}
use Rattle.fields.specs.Fields.{pick, part, fits, put}
use Rattle.fields.specs.declared.Cursor.{Cursor}

-- the cursor at the front
abbrev pub at_front : Cursor
at_front = record { at = 0 }

-- the cursor n bytes on
abbrev pub moved : (n : ℕ) → Cursor → Cursor
moved n c = record { at = c.at + n }

-- reading n bytes: `whole` of the cursor after them, or `nothing` where fewer are left
abbrev pub taken {ℓ} : {A : Type ℓ} (n : ℕ) (whole : Cursor → A) (nothing : A) → List ℕ → Cursor → A
taken n whole nothing s c = pick (fits n s c.at) (whole (moved n c)) nothing

-- the n bytes at the cursor, or none where fewer are left
abbrev pub run_at : (n : ℕ) → List ℕ → Cursor → List ℕ
run_at n s c = pick (fits n s c.at) (part n s c.at) []

-- writing the bytes v at the cursor: the bytes afterwards, and the cursor. Where v doesn't fit, both stay as they were
abbrev pub put_at : (v : List ℕ) → List ℕ → Cursor → List ℕ
put_at v s c = pick (fits (length v) s c.at) (put v s c.at) s

abbrev pub after : (n : ℕ) → List ℕ → Cursor → Cursor
after n s c = pick (fits n s c.at) (moved n c) c
