-- `fields::inside::put_run_at` meets its contract: one more byte copied, and all of them.
-- Assumes nothing.
use mathlib.Core.Path.{◌≡◌, sym, ap, ◌∙◌}
use mathlib.Core.List.{List}
use Prim.Native.Nat.{ℕ, ◌+◌}
use native.Mathlib.Numerals.{add-one}
use native.Mathlib.Omega.{arith}
use lib.ListN.{length, get_or, set}
use lib.Seq.{paste, paste-suc}
use Rattle.fields.proofs.Put.{paste_put}
use Rattle.fields.proofs.inside.put_run_at.Goals as goal

pub loop-i-preserved : goal.loop-i-preserved
loop-i-preserved c =
    let a = c.args in
    let i = c.loop-i.i in
    let fits = c.requires in
    let byte = get_or a.bytes.now i 0 in
    ap (λ (l : List ℕ). set l (a.at + i) byte) c.loop-i.invariant ∙ paste-suc a.out.now a.at a.bytes.now i 0 (omega arith) (omega arith) ∙ ap (paste a.out.now a.at a.bytes.now) (sym (add-one i))

pub returns : goal.returns
returns c =
    let a = c.args in
    let all : c.loop-i.i ≡ length a.bytes.now = omega arith in
    c.loop-i.invariant ∙ ap (paste a.out.now a.at a.bytes.now) all ∙ paste_put a.bytes.now a.out.now a.at
