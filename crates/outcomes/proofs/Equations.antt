-- One law gives every function its one outcome (`one_law`): an outcome that fits is the only one, if whatever fits is equal to it.
-- Contracts here are equations, of the result, of what is lent, or of both: `answers`, `leaves`, `answers_and_leaves`.
-- A function's theorem is one of the three. What the equations say is not written again, but in one place: `_` is read off the contract.
--     by value, nothing lent           answers value _ (λ κs a. (tt, tt)) (λ κs a ws. refl): a `tt` for each parameter, and one more
--     a part handed back               answers (part (λ κs r. r) (λ κs x. x) (λ κs x. refl)) _ and the rest as above
--     by value, a `&mut` parameter     answers_and_leaves value (lends (λ κs e. e.0.now) (λ κs a x. (x, tt)) (λ κs a x. refl) (λ κs a ws. refl)) _ _
--                                      with `e.0`, `e.1.0`, .. by the parameter's place, and x at that place among the `tt`; `lends` is told the
--                                      function, as {T = f.ended}, and what is held, as {X = λ κs. List ℕ}
--     no result, a `&mut` parameter    leaves (lends and so on) _ (λ κs. tt) (λ κs r. refl)
-- Assumes nothing.
use mathlib.Core.Path.{◌≡◌, refl, sym, ◌∙◌, ap}
use Prim.Native.Nat.{ℕ}
use mathlib.Core.List.{List}
use seplogic.Ra.Ura.{Ura}
use base.Logic.{ent, sep, emp, id⊢, via, mono∗, emp∗}
use contract.Monad.{fact, fact_i, fact_mono, fact_use}
use denote.Ref.{Bor}
use denote.Triple.Entry.{Args, Res}
use denote.Triple.Clauses.{Ended, ClausesAt, AtExit, Lasts, at_exit, closing}
use Rattle.byhand.proofs.Calls.{both as pairs}
use Rattle.outcomes.specs.OneOutcome.{Lives, View, whole, content, Fits, OneAt, Stated, Proved, OneOutcome}

-- ---- the law, for an outcome r₀, ws₀
module _ {M : Type 1} (𝓤 : Ura M) (T : Ended) (κs : Lives T) (a : Args T.signature κs) (c : ClausesAt 𝓤 T κs) (v : View T)
    (r₀ : Res T.signature κs) (ws₀ : Lasts T κs a) where
  abbrev Same : Res T.signature κs → Lasts T κs a → Type 0
  Same r ws = (v.see κs r ≡ v.see κs r₀) × (ws ≡ ws₀)

  pub one_law : (g : c.ghost) × ent 𝓤 (emp 𝓤) (c.requires g)
      → ((g : c.ghost) → Fits 𝓤 T κs a c g (emp 𝓤) r₀ ws₀)
      → ((g : c.ghost) (r : Res T.signature κs) (ws : Lasts T κs a) → ent 𝓤 (c.ensures g r (at_exit T κs a ws)) (fact 𝓤 (Same r ws)))
      → OneAt 𝓤 T κs a c v
  one_law free fits says = record {
    free = free;
    some = λ g. (r₀, ws₀, fits g);
    no_second = λ g g' P r r' ws ws' fit fit'.
        fact_use 𝓤 (Same r ws) (via 𝓤 (c.ensures g r (at_exit T κs a ws)) fit (says g r ws)) (λ e.
        fact_use 𝓤 (Same r' ws') (via 𝓤 (c.ensures g' r' (at_exit T κs a ws')) fit' (says g' r' ws')) (λ e'.
        fact_i 𝓤 ((v.see κs r ≡ v.see κs r') × (ws ≡ ws')) P (e.0 ∙ sym e'.0, e.1 ∙ sym e'.1)));
  }

-- ---- what an equation of the result reads: a view, with a result for all that can be seen
pub record Result (T : Ended) : Type 1 where
  pub view : View T
  pub made : (κs : Lives T) → view.Seen κs → Res T.signature κs
  pub seen : (κs : Lives T) (x : view.Seen κs) → view.see κs (made κs x) ≡ x

abbrev pub value : {T : Ended} → Result T
value = record { view = whole; made = λ κs r. r; seen = λ κs r. refl }

abbrev somewhere : List ℕ → Bor (List ℕ)
somewhere x = record { ref_ptr = (0, 0); now = x }

abbrev pub part : {T : Ended} (out : (κs : Lives T) → Res T.signature κs → Bor (List ℕ))
    (into : (κs : Lives T) → Bor (List ℕ) → Res T.signature κs) → ((κs : Lives T) (x : Bor (List ℕ)) → out κs (into κs x) ≡ x) → Result T
part out into same = record {
  view = content out;
  made = λ κs x. into κs (somewhere x);
  seen = λ κs x. ap (λ y. y.now) (same κs (somewhere x));
}

-- ---- what an equation of what is lent reads: all last values, as one thing
pub record Lent (T : Ended) : Type 1 where
  pub Held : Lives T → Type 0
  pub read : (κs : Lives T) → AtExit T κs → Held κs
  pub last : (κs : Lives T) (a : Args T.signature κs) → Held κs → Lasts T κs a
  pub held : (κs : Lives T) (a : Args T.signature κs) (x : Held κs) → read κs (at_exit T κs a (last κs a x)) ≡ x
  pub all : (κs : Lives T) (a : Args T.signature κs) (ws : Lasts T κs a) → ws ≡ last κs a (read κs (at_exit T κs a ws))

abbrev pub lends : {T : Ended} {X : Lives T → Type 0} (read : (κs : Lives T) → AtExit T κs → X κs)
    (last : (κs : Lives T) (a : Args T.signature κs) → X κs → Lasts T κs a)
    → ((κs : Lives T) (a : Args T.signature κs) (x : X κs) → read κs (at_exit T κs a (last κs a x)) ≡ x)
    → ((κs : Lives T) (a : Args T.signature κs) (ws : Lasts T κs a) → ws ≡ last κs a (read κs (at_exit T κs a ws)))
    → Lent T
lends {X = X} read last held all = record { Held = X; read = read; last = last; held = held; all = all }

abbrev closed : {M : Type 1} (T : Ended) → Stated M T → Proved M T
closed T C 𝓤 𝓛 mem run = closing 𝓛 T (C 𝓤 𝓛 mem run)

-- ---- an equation of the result, where nothing is lent
module _ {M : Type 1} {T : Ended} (R : Result T) (f : (κs : Lives T) → Args T.signature κs → R.view.Seen κs) where
  abbrev answering : Stated M T
  answering 𝓤 𝓛 mem run κs a = record { ghost = Unit {0}; requires = λ g. emp 𝓤; ensures = λ g r e. fact 𝓤 (R.view.see κs r ≡ f κs a) }

  pub answers : (last : (κs : Lives T) (a : Args T.signature κs) → Lasts T κs a)
      → ((κs : Lives T) (a : Args T.signature κs) (ws : Lasts T κs a) → ws ≡ last κs a)
      → OneOutcome M T answering (closed T answering) R.view
  answers last all = record {
    proved = λ 𝓤 𝓛 mem run. refl;
    one = λ 𝓤 𝓛 mem run κs a.
        one_law 𝓤 T κs a (answering 𝓤 𝓛 mem run κs a) R.view (R.made κs (f κs a)) (last κs a) (tt, id⊢ 𝓤 (emp 𝓤))
        (λ g. fact_i 𝓤 _ (emp 𝓤) (R.seen κs (f κs a)))
        (λ g r ws. fact_mono 𝓤 (R.view.see κs r ≡ f κs a) _ (λ e. (e ∙ sym (R.seen κs (f κs a)), all κs a ws)));
  }

-- ---- an equation of what is lent, where nothing is handed back
module _ {M : Type 1} {T : Ended} (L : Lent T) (l : (κs : Lives T) → Args T.signature κs → L.Held κs) where
  abbrev leaving : Stated M T
  leaving 𝓤 𝓛 mem run κs a = record { ghost = Unit {0}; requires = λ g. emp 𝓤; ensures = λ g r e. fact 𝓤 (L.read κs e ≡ l κs a) }

  pub leaves : (result : (κs : Lives T) → Res T.signature κs)
      → ((κs : Lives T) (r : Res T.signature κs) → r ≡ result κs)
      → OneOutcome M T leaving (closed T leaving) whole
  leaves result all = record {
    proved = λ 𝓤 𝓛 mem run. refl;
    one = λ 𝓤 𝓛 mem run κs a.
        one_law 𝓤 T κs a (leaving 𝓤 𝓛 mem run κs a) whole (result κs) (L.last κs a (l κs a)) (tt, id⊢ 𝓤 (emp 𝓤))
        (λ g. fact_i 𝓤 _ (emp 𝓤) (L.held κs a (l κs a)))
        (λ g r ws. fact_mono 𝓤 (L.read κs (at_exit T κs a ws) ≡ l κs a) _ (λ e. (all κs r, L.all κs a ws ∙ ap (L.last κs a) e)));
  }

-- ---- an equation of each
module _ {M : Type 1} {T : Ended} (R : Result T) (L : Lent T) (f : (κs : Lives T) → Args T.signature κs → R.view.Seen κs)
    (l : (κs : Lives T) → Args T.signature κs → L.Held κs) where
  abbrev both : Stated M T
  both 𝓤 𝓛 mem run κs a = record {
    ghost = Unit {0};
    requires = λ g. emp 𝓤;
    ensures = λ g r e. sep 𝓤 (fact 𝓤 (R.view.see κs r ≡ f κs a)) (fact 𝓤 (L.read κs e ≡ l κs a));
  }

  pub answers_and_leaves : OneOutcome M T both (closed T both) R.view
  answers_and_leaves = record {
    proved = λ 𝓤 𝓛 mem run. refl;
    one = λ 𝓤 𝓛 mem run κs a.
        one_law 𝓤 T κs a (both 𝓤 𝓛 mem run κs a) R.view (R.made κs (f κs a)) (L.last κs a (l κs a)) (tt, id⊢ 𝓤 (emp 𝓤))
        (λ g. via 𝓤 (sep 𝓤 (emp 𝓤) (emp 𝓤)) (emp∗ 𝓤 (emp 𝓤))
        (mono∗ 𝓤 (fact_i 𝓤 _ (emp 𝓤) (R.seen κs (f κs a))) (fact_i 𝓤 _ (emp 𝓤) (L.held κs a (l κs a)))))
        (λ g r ws. via 𝓤 _ (pairs 𝓤 (R.view.see κs r ≡ f κs a) (L.read κs (at_exit T κs a ws) ≡ l κs a))
        (fact_mono 𝓤 _ _ (λ e. (e.0 ∙ sym (R.seen κs (f κs a)), L.all κs a ws ∙ ap (L.last κs a) e.1))));
  }

-- ---- a function of every type N: what its caller brings is one fact, that N's values live as long as the call. Where it holds, nothing is brought
module _ {M : Type 1} {T : Ended} (F : Lives T → Type 0) (holds : (κs : Lives T) → F κs) where
  abbrev bringing : Stated M T → Stated M T
  bringing C 𝓤 𝓛 mem run κs a =
      let c = C 𝓤 𝓛 mem run κs a in
      record { ghost = c.ghost; requires = λ g. sep 𝓤 (fact 𝓤 (F κs)) (c.requires g); ensures = c.ensures }

  pub at_every_type : {C : Stated M T} {v : View T} → OneOutcome M T C (closed T C) v → OneOutcome M T (bringing C) (closed T (bringing C)) v
  at_every_type {C = C} law = record {
    proved = λ 𝓤 𝓛 mem run. refl;
    one = λ 𝓤 𝓛 mem run κs a.
        let c = C 𝓤 𝓛 mem run κs a in
        let o = law.one 𝓤 𝓛 mem run κs a in
        record {
          free = (o.free.0, via 𝓤 (sep 𝓤 (emp 𝓤) (emp 𝓤)) (emp∗ 𝓤 (emp 𝓤)) (mono∗ 𝓤 (fact_i 𝓤 (F κs) (emp 𝓤) (holds κs)) o.free.1));
          some = o.some;
          no_second = o.no_second;
        };
  }
