-- All entries lent: nothing stands behind them.
-- Assumes nothing.
use mathlib.Core.Path.{◌≡◌, ap, ap₂, ◌∙◌}
use mathlib.Core.List.{List, ◌++◌, append-nil}
use Prim.Native.Nat.{ℕ, ◌≤◌}
use lib.ListN.{length, drop_of_length-le}
use lib.Seq.{take_all}
use Rattle.index.specs.declared.Entry.{Entry}
use Rattle.journal.specs.declared.Rule.{Rule}
use Rattle.journal.specs.Scan.{scan_of, index_after}
use Rattle.held.specs.Held.{held_scan}

pub scan_whole : (limit : ℕ) (rule : Rule) (n : ℕ) (s : List ℕ) (es : List Entry) → length es ≤ n → held_scan limit rule n s es ≡ record { scan = scan_of limit rule n s; entries = index_after limit es s }
unfolding held_scan
scan_whole limit rule n s es h =
    ap (λ (l : List Entry). record { scan = scan_of limit rule n s; entries = l }) (
    ap₂ (λ (l r : List Entry). index_after limit l s ++ r) (take_all n es h) (drop_of_length-le es h) ∙ append-nil (index_after limit es s)
    )
