-- A reader and a writer hold the bytes and the place of the next field. What they read and write is what is read and written at a cursor;
-- here is what each is to begin with, and afterwards.
-- Assumes nothing.
use Rattle.std.specs.Prelude.{ℕ, List, length}
use denote.Ref.{Bor, MutBor, at_last}
use Rattle.fields.specs.Cursors.{after, put_at}
use Rattle.fields.specs.declared.Cursor.{Cursor}
use Rattle.fields.specs.declared.reading.Reader.{Reader}
use Rattle.fields.specs.declared.writing.Writer.{Writer}

-- a reader at the front of the bytes
abbrev pub reader_of : Bor (List ℕ) → Reader
reader_of bytes = record { bytes = bytes; at = 0 }

-- its place, as a cursor
abbrev pub read_place : Reader → Cursor
read_place r = record { at = r.at }

-- a reader after a field of n bytes: the same bytes, and the place behind the field, where all of it is there
abbrev pub read_on : (n : ℕ) → Reader → Reader
read_on n r = record { bytes = r.bytes; at = (after n r.bytes.now (read_place r)).at }

-- a writer at the front of the bytes
abbrev pub writer_of : MutBor (List ℕ) → Writer
writer_of buffer = record { buffer = buffer; at = 0 }

-- its place, as a cursor
abbrev pub write_place : Writer → Cursor
write_place w = record { at = w.at }

-- a writer after the bytes v: the same borrow, with v at the place, and the place behind them. Where v doesn't fit, it is as it was.
-- `at_last x l` is the borrow x at the list l
abbrev pub wrote : (v : List ℕ) → Writer → Writer
wrote v w = record { buffer = at_last w.buffer (put_at v w.buffer.now (write_place w)); at = (after (length v) w.buffer.now (write_place w)).at }
