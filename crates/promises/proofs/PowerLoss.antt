-- Power loss, proved: a written journal is a chain, whose records that are whole at the place end at B or past it.
-- Assumes nothing.
use mathlib.Core.Path.{◌≡◌, refl, sym, ap, ◌∙◌}
use mathlib.Core.Bool.{Bool, true, false}
use Prim.Native.Nat.{◌+◌, ◌*◌, ◌-◌, ◌≤◌}
use native.Mathlib.Omega.{arith}
use native.Mathlib.Nat.{le_refl}
use lib.ListN.{length}
use lib.Dec.{leb}
use borrow.Author.Tests.{leb-true, leb-false}
use Rattle.prefix.specs.Prefix.{prefix_length}
use Rattle.journal.specs.declared.Rule.TheVariants.{Tail}
use Rattle.journal.specs.Walk.{end_of}
use Rattle.journal.specs.Scan.{scan_of}
use Rattle.journal.specs.Demand3.{durable_end}
use Rattle.journal.proofs.OpenScans.{shut}
use Rattle.journal.proofs.Opens.{ok_value}
use Rattle.refusals.specs.Refusals.{refusal}
use Rattle.std.specs.Prelude.{is_ok, IsOk}
use Rattle.promises.specs.Shortening.{whole_in}
use Rattle.promises.specs.Lost.{lost_to, last_place, lasting_end}
use Rattle.promises.specs.PowerLoss.{Enough, PowerLoss, UnsyncedLoss, WholeLast, LossBehindDurable, RefusedLoss, MatchedLoss, EveryLoss}
use Rattle.promises.proofs.WholeRecords.{ends_later}
use Rattle.promises.proofs.LastPlace.{not_before, was_zero}
use Rattle.promises.proofs.OneMore.{one_more}
use Rattle.promises.proofs.LossOfChain.{of_written}
use Rattle.promises.proofs.ChainLoss.{chain_loss, chain_unsynced, chain_eleven, chain_matched, chain_every}

pub power_loss : PowerLoss
power_loss limit N lent s rs w k m x = chain_loss limit N lent s rs k m (of_written limit (length lent) s rs k m w x)

pub unsynced_loss : UnsyncedLoss
unsynced_loss limit N lent s rs w k m x = chain_unsynced limit N lent s rs k m (of_written limit (length lent) s rs k m w x)

pub whole_last : WholeLast
whole_last limit room s rs w k m x =
    let a = not_before k m s x.place_inside x.no_longer in
    let y = one_more limit k (last_place k m s) s a (was_zero k m s x.place_inside x.no_longer) w.sound_alone (le_refl prefix_length) in
    record { more = y.0; in_front = y.1; one_more = y.2 }

-- B isn't past the end of the records that lasted
pub loss_behind_durable : LossBehindDurable
loss_behind_durable limit N lent s rs w k m x near chance =
    let c = of_written limit (length lent) s rs k m w x in
    let y = whole_last limit (length lent) s rs w k m x in
    let b : durable_end s ≤ lasting_end s rs k m = omega (arith, c.past_durable, ends_later (whole_in k rs) y.more, ap end_of y.in_front) in
    (chain_loss limit N lent s rs k m c (λ z. omega arith) chance, y)

pub refused_loss : RefusedLoss
refused_loss limit N lent s rs w k m x chance =
    let c = of_written limit (length lent) s rs k m w x in
    record {
      exactly = (enough, λ near. ap is_ok (chain_loss limit N lent s rs k m c near chance).answer);
      eleven = chain_eleven limit N lent s rs k m c;
    }
  where
    enough : IsOk (scan_of limit (Tail N) (length lent) (lost_to k m s)) → Enough limit N s rs k m
    enough o part = go (leb (m - lasting_end s rs k m) (N * (12 + limit))) refl
      where
        go : (z : Bool) → leb (m - lasting_end s rs k m) (N * (12 + limit)) ≡ z → m - lasting_end s rs k m ≤ N * (12 + limit)
        go true z = leb-true (m - lasting_end s rs k m) (N * (12 + limit)) z
        go false z =
            let far = leb-false (m - lasting_end s rs k m) (N * (12 + limit)) z in
            let y = chain_eleven limit N lent s rs k m (of_written limit (length lent) s rs k m w x) part far in
            let v = ok_value (scan_of limit (Tail N) (length lent) (lost_to k m s)) o in
            absurd (shut (refusal 11 (lasting_end s rs k m)) v.0 (sym y.answer ∙ v.1))

pub matched_loss : MatchedLoss
matched_loss limit N lent s rs w k m x = chain_matched limit N lent s rs k m (of_written limit (length lent) s rs k m w x)

pub every_loss : EveryLoss
every_loss limit N lent s rs w k m x = chain_every limit N lent s rs k m (of_written limit (length lent) s rs k m w x)
