-- The lines of entries, one more at a time.
-- Assumes nothing.
use mathlib.Core.Path.{◌≡◌, refl, sym, ap, ◌∙◌}
use mathlib.Core.List.{List, [], ◌∷◌, ◌++◌, append_assoc, append-nil}
use Prim.Native.Nat.{ℕ, ◌+◌, ◌<◌, min}
use native.Mathlib.Omega.{arith, min_cases}
use native.Mathlib.Numerals.{add-one}
use lib.ListN.{length, take, get_or}
use lib.Seq.{take-suc, take_all}
use Rattle.index.specs.declared.Entry.{Entry}
use Rattle.report.specs.declared.words.Printer.{Printer}
use Rattle.report.specs.Steps.{Prints}
use Rattle.report.proofs.Pieces.{◌then◌, printed_as, printed_nothing}
use Rattle.report.specs.Report.{entry_line, entry_lines}

pub lines_none : (p : Printer) → Prints (entry_lines []) p p
unfolding entry_lines
lines_none p = printed_nothing p

lines_append : (a b : List Entry) → entry_lines (a ++ b) ≡ entry_lines a ++ entry_lines b
unfolding entry_lines
lines_append [] b = refl
lines_append (e ∷ a) b = ap (λ (l : List ℕ). entry_line e ++ l) (lines_append a b) ∙ sym (append_assoc (entry_line e) (entry_lines a) (entry_lines b))

lines_one : (e : Entry) → entry_lines (e ∷ []) ≡ entry_line e
unfolding entry_lines
lines_one e = append-nil (entry_line e)

lines_more : (es : List Entry) (i : ℕ) (d : Entry) → i < length es → entry_lines (take (i + 1) es) ≡ entry_lines (take i es) ++ entry_line (get_or es i d)
lines_more es i d h =
    ap (λ (n : ℕ). entry_lines (take n es)) (add-one i) ∙ ap entry_lines (take-suc es i d h) ∙ lines_append (take i es) (get_or es i d ∷ []) ∙ ap (λ (l : List ℕ). entry_lines (take i es) ++ l) (lines_one (get_or es i d))

-- an entry's line behind those before it
pub lines_printed : (es : List Entry) (i : ℕ) (d : Entry) (p q r : Printer) → Prints (entry_lines (take i es)) p q → Prints (entry_line (get_or es i d)) q r → i < length es → Prints (entry_lines (take (i + 1) es)) p r
lines_printed es i d p q r x y h = printed_as (x then y) (lines_more es i d h)

-- no more than 1,024 are there
pub lines_all : (es : List Entry) (count : ℕ) → length es ≡ 1024 → entry_lines (take count es) ≡ entry_lines (take (min count 1024) es)
lines_all es count e =
    min_cases count 1024 (entry_lines (take count es) ≡ entry_lines (take (min count 1024) es))
    (λ _ m. ap (λ (n : ℕ). entry_lines (take n es)) (sym m))
    (λ l m. ap entry_lines (take_all count es (omega (arith, e, l)) ∙ sym (take_all (min count 1024) es (omega (arith, e, m)))))
