-- An index by value: what is done to its first n entries, and the others behind them, which don't change.
-- Assumes nothing.
use Rattle.std.specs.Prelude.{ℕ, List, ◌++◌, take, drop, Option}
use Rattle.index.specs.declared.Entry.{Entry}
use Rattle.index.specs.Insert.{lookup_in, insert_answer, insert_out}
use Rattle.journal.specs.declared.Rule.{Rule}
use Rattle.journal.specs.Scan.{scan_of, index_after}
use Rattle.held.specs.declared.Inserted.{Inserted}
use Rattle.held.specs.declared.Scanned.{Scanned}

unfoldable pub held_scan : (limit : ℕ) (rule : Rule) (n : ℕ) (journal : List ℕ) (entries : List Entry) → Scanned
held_scan limit rule n s es = record { scan = scan_of limit rule n s; entries = index_after limit (take n es) s ++ drop n es }

unfoldable pub held_insert : (n : ℕ) (entries : List Entry) (count dead : ℕ) (entry : Entry) → Inserted
held_insert n es count dead e = record { filed = insert_answer (take n es) count dead e; entries = insert_out (take n es) count dead e ++ drop n es }

unfoldable pub held_lookup : (n : ℕ) (entries : List Entry) (count number : ℕ) → Option Entry
held_lookup n es count number = lookup_in (take n es) count number
