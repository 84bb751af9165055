-- One outcome: a second result or a second final memory that fits a function's contract is equal to the first.
-- The premises are the contract's own `ensures`, as the toolchain makes them from the source, and nothing else.
-- An outcome is a result r and last values ws: for each parameter that is lent as `&mut` what stands in it at exit, of a slice the whole list.
-- A clause reads the exit as `at_exit` of the arguments and ws, so nothing else of the exit can differ.
--     View           what is compared of two results. `whole`: the results themselves. `content`: of a part handed back by reference, its bytes;
--                    a reference is also an address, and no contract says that
--     Fits P r ws    whoever knows P knows what `ensures` says of the outcome r, ws
--     OneAt          at given lifetimes and arguments: a caller brings nothing, some outcome fits, and of two that fit
--                    what is seen of the results is equal, and so are all last values
--     OneOutcome     the clauses are the contract that is proved of the code, and at all lifetimes and arguments there is one outcome
-- Assumes nothing: these are definitions.
use Rattle.std.specs.Prelude.{◌≡◌, ℕ, List}
use seplogic.Ra.Ura.{Ura}
use base.Logic.{SProp, ent, emp}
use prog.Memory.{Memory}
use prog.Routine.{Routine}
use types.Logic.{Logic}
use contract.Lifetimes.{Lfts}
use contract.Monad.{Fun, fact}
use Rattle.std.specs.Borrow.{Bor}
use denote.Triple.Entry.{Args, Res}
use denote.Triple.Spec.{Spec}
use denote.Triple.Clauses.{Ended, ClausesAt, Clauses, Lasts, at_exit, closing}

abbrev pub Lives : Ended → Type 0
Lives T = Lfts T.signature.lifetimes

-- ---- what is compared of two results
pub record View (T : Ended) : Type 1 where
  pub Seen : Lives T → Type 0
  pub see : (κs : Lives T) → Res T.signature κs → Seen κs

abbrev pub whole : {T : Ended} → View T
whole {T} = record { Seen = Res T.signature; see = λ κs r. r }

abbrev pub content : {T : Ended} → ((κs : Lives T) → Res T.signature κs → Bor (List ℕ)) → View T
content part = record { Seen = λ κs. List ℕ; see = λ κs r. (part κs r).now }

-- ---- at given lifetimes κs and arguments a
module _ {M : Type 1} (𝓤 : Ura M) (T : Ended) (κs : Lives T) (a : Args T.signature κs) (c : ClausesAt 𝓤 T κs) where
  abbrev pub Fits : c.ghost → SProp 𝓤 → Res T.signature κs → Lasts T κs a → Type 1
  Fits g P r ws = ent 𝓤 P (c.ensures g r (at_exit T κs a ws))

  pub record OneAt (v : View T) : Type 2 where
    pub free : (g : c.ghost) × ent 𝓤 (emp 𝓤) (c.requires g)
    pub some : (g : c.ghost) → (r : Res T.signature κs) × (ws : Lasts T κs a) × Fits g (emp 𝓤) r ws
    pub no_second : (g g' : c.ghost) (P : SProp 𝓤) (r r' : Res T.signature κs) (ws ws' : Lasts T κs a)
        → Fits g P r ws → Fits g' P r' ws'
        → ent 𝓤 P (fact 𝓤 ((v.see κs r ≡ v.see κs r') × (ws ≡ ws')))

-- ---- of a function f: `f.clauses`, and `f.spec`, which is what is proved of its code (`f.Statement`)
abbrev pub Stated : Type 1 → Ended → Type 2
Stated M T = (𝓤 : Ura M) (𝓛 : Logic 𝓤) → (Memory → SProp 𝓤) → (Routine → Fun 𝓤) → Clauses 𝓤 T

abbrev pub Proved : Type 1 → Ended → Type 2
Proved M T = (𝓤 : Ura M) (𝓛 : Logic 𝓤) → (Memory → SProp 𝓤) → (Routine → Fun 𝓤) → Spec 𝓤 T.signature

pub record OneOutcome (M : Type 1) (T : Ended) (clauses : Stated M T) (spec : Proved M T) (v : View T) : Type 2 where
  pub proved : (𝓤 : Ura M) (𝓛 : Logic 𝓤) (mem : Memory → SProp 𝓤) (run : Routine → Fun 𝓤)
      → spec 𝓤 𝓛 mem run ≡ closing 𝓛 T (clauses 𝓤 𝓛 mem run)
  pub one : (𝓤 : Ura M) (𝓛 : Logic 𝓤) (mem : Memory → SProp 𝓤) (run : Routine → Fun 𝓤) (κs : Lives T) (a : Args T.signature κs)
      → OneAt 𝓤 T κs a (clauses 𝓤 𝓛 mem run κs a) v
