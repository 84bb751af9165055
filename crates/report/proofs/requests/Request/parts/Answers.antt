-- `report::requests::Request::parts` meets its contract: a case for each kind, and for all that is none.
-- Assumes nothing.
use native.Mathlib.Omega.{arith}
use Rattle.report.proofs.RequestCases.{front, got, lost, same_place, kind_got, short_tail, short_anywhere, short_salvage, no_kind, no_byte, parts_tail, parts_anywhere, parts_salvage}
use Rattle.report.proofs.requests.Request.parts.Goals as goal
use Rattle.report.proofs.requests.Request.parts.Goals.{in-1+in_ok-number-in-1, in-2, in-3}

pub returns-in_err-number : goal.returns-in_err-number
returns-in_err-number c = rw c.from_residual.ensures (no_byte _ (lost 1 _ 0 _ (front _ _ c.new-from.ensures) c.in_err-number.ensures.value))

pub returns-in_err-number-in-1 : goal.returns-in_err-number-in-1
returns-in_err-number-in-1 c =
    let g = got 1 c.args.input.now 0 c.in_ok-number.field-0 c.new-from.result c.number.new.self (front _ _ c.new-from.ensures) c.number.ensures.self_after c.in_ok-number.ensures.value in
    rw c.from_residual-in_err-number-in-1.ensures (short_tail _ _ (kind_got _ _ _ g) c.in-1.is (omega (arith, lost 8 _ 1 _ g.on c.in_err-number-in-1.ensures.value)))

pub returns-in_default : goal.returns-in_default
returns-in_default c =
    let g = got 1 c.args.input.now 0 c.in_ok-number.field-0 c.new-from.result c.number.new.self (front _ _ c.new-from.ensures) c.number.ensures.self_after c.in_ok-number.ensures.value in
    no_kind _ _ (kind_got _ _ _ g) (λ z. omega arith) (λ z. omega arith) (λ z. omega arith)

pub returns-in_err-limit : goal.returns-in_err-limit
returns-in_err-limit c =
    let g = got 1 c.args.input.now 0 c.in_ok-number.field-0 c.new-from.result c.number.new.self (front _ _ c.new-from.ensures) c.number.ensures.self_after c.in_ok-number.ensures.value in
    let k = kind_got _ _ _ g in
    rw c.from_residual-in_err-limit.ensures (elim c.match-branch-2.branch [
      | in-1+in_ok-number-in-1 w ↦
          let n = got 8 c.args.input.now 1 w.in_ok-number-in-1.field-0 c.number.new.self w.number-in-1.new.self g.on w.number-in-1.ensures.self_after w.in_ok-number-in-1.ensures.value in
          short_tail _ _ k w.in-1.is (lost 8 _ 9 _ (same_place n.on w.from-is) c.in_err-limit.ensures.value)
      | in-2 w ↦ short_anywhere _ _ k w.in-2.is (lost 8 _ 1 _ (same_place g.on w.from-is) c.in_err-limit.ensures.value)
      | in-3 w ↦ short_salvage _ _ k w.in-3.is (lost 8 _ 1 _ (same_place g.on w.from-is) c.in_err-limit.ensures.value)
    ])

pub returns : goal.returns
returns c =
    let s = c.args.input.now in
    let g = got 1 s 0 c.in_ok-number.field-0 c.new-from.result c.number.new.self (front _ _ c.new-from.ensures) c.number.ensures.self_after c.in_ok-number.ensures.value in
    let k = kind_got _ _ _ g in
    elim c.match-branch-2.branch [
      | in-1+in_ok-number-in-1 w ↦
          let n = got 8 s 1 w.in_ok-number-in-1.field-0 c.number.new.self w.number-in-1.new.self g.on w.number-in-1.ensures.self_after w.in_ok-number-in-1.ensures.value in
          let l = got 8 s 9 c.in_ok-limit.limit c.match-branch-2.from c.number-2.new.self (same_place n.on w.from-is) c.number-2.ensures.self_after c.in_ok-limit.ensures.value in
          parts_tail s _ _ _ _ _ k w.in-1.is n l w.rule-is c.rest.ensures
      | in-2 w ↦
          let l = got 8 s 1 c.in_ok-limit.limit c.match-branch-2.from c.number-2.new.self (same_place g.on w.from-is) c.number-2.ensures.self_after c.in_ok-limit.ensures.value in
          parts_anywhere s _ _ _ k w.in-2.is l w.rule-is c.rest.ensures
      | in-3 w ↦
          let l = got 8 s 1 c.in_ok-limit.limit c.match-branch-2.from c.number-2.new.self (same_place g.on w.from-is) c.number-2.ensures.self_after c.in_ok-limit.ensures.value in
          parts_salvage s _ _ _ k w.in-3.is l w.rule-is c.rest.ensures
    ]
