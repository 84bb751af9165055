-- What the check program prints: a line that says how the journal opens, and one for each entry of its index; or the refusal alone.
-- Assumes nothing.
use Rattle.std.specs.Prelude.{ℕ, List, [], ◌∷◌, ◌++◌, eqb, take, replicate, Result, Ok, Err}
use Prim.Native.String.{String}
use Rattle.fields.specs.Fields.{pick, bit_of}
use Rattle.prefix.specs.Slots.{position_number}
use Rattle.refusals.specs.declared.Refusal.{Refusal}
use Rattle.refusals.specs.Refusals.{number_in}
use Rattle.index.specs.declared.Entry.{Entry}
use Rattle.index.specs.Insert.{none}
use Rattle.journal.specs.declared.Cut.{Cut}
use Rattle.journal.specs.declared.Cut.TheVariants.{None, Incomplete, Damaged}
use Rattle.journal.specs.declared.answers.Scan.{Scan}
use Rattle.journal.specs.Scan.{scan_of, index_after}
use Rattle.report.specs.Request.{rule_in, limit_in, journal_in, request_fault}
use Rattle.report.specs.Text.{letters, decimal}

-- a name and a number behind it
unfoldable pub field : (name : String) (x : ℕ) → List ℕ
field name x = letters name ++ decimal x

-- what a scan cuts
unfoldable pub cut_text : Cut → List ℕ
cut_text None = letters " cut=none"
cut_text (Incomplete r) = field " cut=incomplete:" r
cut_text (Damaged r) = field " cut=damaged:" r

-- the line of an opened journal: where its records end and what the index holds, the counters that follow, the newest slot, the cut
unfoldable pub counters_text : Scan → List ℕ
counters_text s = field "open end=" s.end ++ field " records=" s.count ++ field " dead=" s.dead ++ field " sender=" s.sender ++ field " target=" s.target ++ field " generation=" s.generation

unfoldable pub slot_text : Scan → List ℕ
slot_text s = field " active=" (position_number s.active) ++ field " stale=" (bit_of s.stale) ++ field " reset=" (bit_of s.reset) ++ field " watermark=" s.watermark ++ field " boundary=" s.boundary

unfoldable pub open_line : Scan → List ℕ
open_line s = counters_text s ++ slot_text s ++ cut_text s.cut ++ letters "\n"

-- the line of an entry
unfoldable pub entry_line : Entry → List ℕ
entry_line e = field "entry seq=" e.number ++ field " offset=" e.offset ++ field " body=" e.body ++ letters "\n"

unfoldable pub entry_lines : List Entry → List ℕ
entry_lines [] = []
entry_lines (e ∷ es) = entry_line e ++ entry_lines es

-- the line of a refusal: its number and place
unfoldable pub refused_line : (number place : ℕ) → List ℕ
refused_line n p = field "refused " n ++ field " at " p ++ letters "\n"

-- what a scan comes to, with the index that it left; or its refusal alone
unfoldable pub scan_text : Result Scan Refusal → List Entry → List ℕ
scan_text (Ok s) es = open_line s ++ entry_lines (take s.count es)
scan_text (Err e) es = refused_line (number_in e.reason) e.place

-- the scan that a request asks for, over an index of 1,024 entries
unfoldable pub scanned_text : (input : List ℕ) → List ℕ
scanned_text i = scan_text (scan_of (limit_in i) (rule_in i) 1024 (journal_in i)) (index_after (limit_in i) (replicate 1024 none) (journal_in i))

-- the whole output for a request
unfoldable pub report_of : (input : List ℕ) → List ℕ
report_of i = pick (eqb (request_fault i) 0) (scanned_text i) (refused_line (request_fault i) 0)
