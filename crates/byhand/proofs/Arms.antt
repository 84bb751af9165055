-- A function that is one `match` on a number, with an arm for each entry of a list, from key 0 on: at key k it answers the entry at k.
-- The toolchain's own walk of a `match` has a goal for each arm, and isn't made past 512 of them. This law goes by the list, whatever its length.
--     fn_of             the function's MIR, from its entries
--     stored_by         the entries, from its MIR: so that no proof has a copy of them
--     matched          its contract, where the entry at each key meets it
-- Assumes `Logic`.
use mathlib.Core.Path.{◌≡◌, refl, sym, ◌∙◌, subst}
use mathlib.Core.Bool.{Bool, true, false, ◌&&◌}
use mathlib.Core.List.{List, [], ◌∷◌}
use mathlib.Core.Option.{some, none}
use Prim.Native.Nat.{ℕ, suc, ◌+◌, ◌^◌, ◌≤◌, ◌<◌, zero-le}
use native.Mathlib.Nat.{add-zero, zero-add, add-suc, suc-add}
use native.Mathlib.Omega.{arith}
use lib.Dec.{T, T¹, ltb, ltb→lt}
use lib.ListN.{length, get_or}
use mir.Syntax.{Width, w32, Ty, ty_int, Fn, Home, value_local, Opd, copy, int, int_neg, int_big, float, opd_true, opd_false, opd_unit, ptr_const, size_of, align_of, num_of, fn_addr, vtable, place}
use mir.Syntax.{Rv, rv_opd, op2, op1, addr_of, aggregate, repeat, repeat_p, select, Body, skip, seq, assign, block, loop, cond, switch, exit, return, call, unreachable, call_v, lend_static, Arms, arm, default, no_default}
use mir.Facts.{and_yes}
use prog.Wp.{Env, Tables, WpFn}
use types.Run.{OneOf}
use types.Logic.{Logic}
use seplogic.Ra.Ura.{Ura}
use contract.Lifetimes.{Lfts, Shares}
use denote.Triple.Clauses.{AtExit}
use denote.Triple.Statement.{Triple}
use borrow.Kind.Num.{p_num, r_num}
use borrow.Fn.Kinds.{ParamKind, ResultKind, Dens, GoodsP, In, Out, ended_of, ty_r}
use borrow.Fn.Enter.{tys_p}
use borrow.Fn.Frame.{EnvOf}
use borrow.Fn.Function as function
use borrow.Fn.Function.{plain_of, init}
use borrow.Fn.Any.{want_q}
use borrow.Fn.Plain.{t_fn_plain}
use borrow.Table.Row.{Cx, Row, s_int, val_s}
use borrow.Table.Rows.{sc_here, any_gone}
use borrow.Table.Reads.{room_gone}
use borrow.Table.Typed.{Mo, TF, Want, Outs, Typed, pass, with_next, want_next, at_next, at_ret, s_Typed, s_seq, t_seq, g_pre_lem, t_return}
use borrow.Rule.Scalar.{o_at, o_int, o_big, n_use, n_room, t_use, g_room, room_Sc, Holds-Sc, reads_Sc}
use borrow.Rule.Switch.{Wants, TypedArms, Φarms, Φswitch, t_switch}

-- ---- the function, from its entries: local 0 is the answer, 1 the key, 2 the entry

-- a number as MIR writes it
abbrev number : Bool → ℕ → Opd
number true x = int w32 x
number false x = int_big w32 x

abbrev store : ℕ → Body
store x = assign (place 2 []) (rv_opd (number (ltb x 1024) x))

-- `_ => 0` at the end, or nothing
abbrev end : Bool → Arms
end true = default (store 0)
end false = no_default

abbrev arms : Bool → ℕ → List ℕ → Arms
arms z n [] = end z
arms z n (x ∷ xs) = arm (n ∷ []) (store x) (arms z (suc n) xs)

abbrev answer : Body
answer = seq (assign (place 0 []) (rv_opd (copy (place 2 [])))) return

abbrev body : Bool → List ℕ → Body
body z xs = seq (switch (copy (place 1 [])) (arms z 0 xs)) answer

abbrev pub r : ResultKind 0
r = r_num w32

abbrev others : List Ty
others = ty_int w32 ∷ []

abbrev homes : List Home
homes = value_local ∷ value_local ∷ value_local ∷ []

-- each entry has 32 bits
abbrev pub small : List ℕ → Bool
small [] = true
small (x ∷ xs) = ltb x (2 ^ 32) && small xs

lifted : (b : Bool) → T b → T¹ b
lifted true t = tt
lifted false t = absurd t

-- ---- the entries, from the function's `switch`

unfoldable pub constant : Opd → ℕ
constant (int w x) = x
constant (int_big w x) = x
constant (copy p) = 0
constant (int_neg w x) = 0
constant (float f x) = 0
constant opd_true = 0
constant opd_false = 0
constant opd_unit = 0
constant (ptr_const x) = 0
constant (size_of τ) = 0
constant (align_of τ) = 0
constant (num_of w τ) = 0
constant (fn_addr c g) = 0
constant (vtable τ ss) = 0

unfoldable pub assigned : Rv → ℕ
assigned (rv_opd o) = constant o
assigned (op2 o a b) = 0
assigned (op1 o a) = 0
assigned (addr_of p) = 0
assigned (aggregate os) = 0
assigned (repeat o n) = 0
assigned (repeat_p o n) = 0
assigned (select a b c) = 0

unfoldable pub stored : Body → ℕ
stored (assign p v) = assigned v
stored skip = 0
stored (seq a b) = 0
stored (block b) = 0
stored (loop b) = 0
stored (cond o a b) = 0
stored (switch o zs) = 0
stored (exit n) = 0
stored return = 0
stored (call f os p) = 0
stored unreachable = 0
stored (call_v o g os p) = 0
stored (lend_static p τ c) = 0

unfoldable pub stored_in : Arms → List ℕ
stored_in (arm ks b zs) = stored b ∷ stored_in zs
stored_in (default b) = []
stored_in no_default = []

unfoldable pub stored_by : Body → List ℕ
stored_by (switch o zs) = stored_in zs
stored_by skip = []
stored_by (seq a b) = []
stored_by (assign p v) = []
stored_by (block b) = []
stored_by (loop b) = []
stored_by (cond o a b) = []
stored_by (exit n) = []
stored_by return = []
stored_by (call f os p) = []
stored_by unreachable = []
stored_by (call_v o g os p) = []
stored_by (lend_static p τ c) = []

module _ (w : Width) where
  abbrev pub ps : List (ParamKind 0)
  ps = p_num w ∷ []

  abbrev pub fn_of : Bool → List ℕ → Fn
  fn_of z xs = function.fn_of 0 ps r others 0 homes (body z xs)

  -- ---- what the locals hold, from entry to return

  abbrev has : Width → Row
  has v = sc_here (s_int v)

  abbrev room : Width → Row
  room v = any_gone (ty_int v)

  abbrev tab : Row → Row → Row → Cx
  tab a k e = record { locals = (0, a) ∷ (1, k) ∷ (2, e) ∷ []; slots = [] }

  abbrev Γ0 : Cx
  Γ0 = tab (room w32) (has w) (room w32)

  abbrev Γ1 : Cx
  Γ1 = tab (room w32) (has w) (has w32)

  abbrev Γ2 : Cx
  Γ2 = tab (has w32) (has w) (has w32)

  abbrev Γ3 : Cx
  Γ3 = tab (has w32) (has w) (room w32)

  abbrev Γ4 : Cx
  Γ4 = tab (has w32) (room w) (room w32)

  abbrev Δ : Outs
  Δ = record { next = none; exits = []; returns = some Γ4 }

  abbrev Δ1 : Outs
  Δ1 = with_next (some Γ1) Δ

  -- ---- what is asked: that the entry, once it is the answer, is what is wanted

  abbrev at_store : ℕ → TF Γ0 Δ1
  at_store x Ψ = pass Γ0 Γ1 (n_use Γ0 (o_big w32 x) 2 (has w32) (s_int w32).of) (at_next Δ1 Ψ)

  abbrev at-end : (z : Bool) → Wants Γ0 Δ1 (end z)
  at-end true = at_store 0
  at-end false = tt

  abbrev at-arms : (z : Bool) (n : ℕ) (xs : List ℕ) → Wants Γ0 Δ1 (arms z n xs)
  at-arms z n [] = at-end z
  at-arms z n (x ∷ xs) = (at_store x, at-arms z (suc n) xs)

  abbrev at_3 : TF Γ3 Δ
  at_3 Ψ = pass Γ3 Γ4 (n_room Γ3 1 (ty_int w)) (at_ret Δ Ψ)

  abbrev at_2 : TF Γ2 Δ
  at_2 Ψ = pass Γ2 Γ3 (n_room Γ2 2 (ty_int w32)) (at_3 Ψ)

  abbrev at-answer : TF Γ1 Δ
  at-answer Ψ = pass Γ1 Γ2 (n_use Γ1 (o_at 2 (ty_int w32) (val_s (s_int w32))) 0 (has w32) (s_int w32).of) (at_2 Ψ)

  abbrev at_body : (z : Bool) (xs : List ℕ) → TF Γ0 Δ
  at_body z xs Ψ = Φswitch Γ0 Δ1 1 (λ k. k) (arms z 0 xs) (at-arms z 0 xs) (want_next Γ1 Δ (at-answer Ψ) Ψ)

  -- ---- the derivation

  module _ {M : Type 1} {𝓤 : Ura M} (𝓛 : Logic 𝓤) (𝓣 : Tables 𝓤 𝓛.H) (bs : List ℕ) where
    open 𝓛 use {H}

    abbrev E : Env 𝓤 H
    E = EnvOf 𝓛 (ty_r r ∷ tys_p ps others) bs

    stores : (b : Bool) (x : ℕ) → T (ltb x (2 ^ 32)) → Typed 𝓛 𝓣 E Γ0 (assign (place 2 []) (rv_opd (number b x))) Δ1 (at_store x)
    stores true x h =
        s_Typed 𝓛 𝓣 E Γ0 (assign (place 2 []) (rv_opd (int w32 x))) Δ1 (pass Γ0 Γ1 (n_use Γ0 (o_int w32 x) 2 (has w32) (s_int w32).of)) tt
        (t_use 𝓛 E 𝓣 Γ0 (o_int w32 x) 2 (has w32) (ty_int w32) (val_s (s_int w32)) (s_int w32).of (lifted (ltb x (2 ^ 32)) h)
        (room_gone 𝓛 (ty_int w32)) (Holds-Sc 𝓛 (s_int w32)) refl (λ u. refl) λ u. tt)
    stores false x h =
        s_Typed 𝓛 𝓣 E Γ0 (assign (place 2 []) (rv_opd (int_big w32 x))) Δ1 (pass Γ0 Γ1 (n_use Γ0 (o_big w32 x) 2 (has w32) (s_int w32).of)) tt
        (t_use 𝓛 E 𝓣 Γ0 (o_big w32 x) 2 (has w32) (ty_int w32) (val_s (s_int w32)) (s_int w32).of record { lower = record { fits = ltb→lt x (2 ^ 32) h } }
        (room_gone 𝓛 (ty_int w32)) (Holds-Sc 𝓛 (s_int w32)) refl (λ u. refl) λ u. tt)

    ends : (z : Bool) → TypedArms 𝓛 𝓣 E Γ0 Δ1 (end z) (at-end z)
    ends true = stores true 0 tt
    ends false = tt

    each : (z : Bool) (n : ℕ) (xs : List ℕ) → T (small xs) → TypedArms 𝓛 𝓣 E Γ0 Δ1 (arms z n xs) (at-arms z n xs)
    each z n [] h = ends z
    each z n (x ∷ xs) h =
        let fit = and_yes (ltb x (2 ^ 32)) (small xs) h in
        (stores (ltb x 1024) x fit.0, each z (suc n) xs fit.1)

    answers : Typed 𝓛 𝓣 E Γ1 answer Δ at-answer
    answers =
        s_seq 𝓛 𝓣 E Γ1 Γ2 (assign (place 0 []) (rv_opd (copy (place 2 [])))) return Δ
        (pass Γ1 Γ2 (n_use Γ1 (o_at 2 (ty_int w32) (val_s (s_int w32))) 0 (has w32) (s_int w32).of)) at_2
        (t_use 𝓛 E 𝓣 Γ1 (o_at 2 (ty_int w32) (val_s (s_int w32))) 0 (has w32) (ty_int w32) (val_s (s_int w32)) (s_int w32).of (reads_Sc 𝓛 (s_int w32), refl)
        (room_gone 𝓛 (ty_int w32)) (Holds-Sc 𝓛 (s_int w32)) refl (λ u. refl) λ u. tt)
        (g_pre_lem 𝓛 𝓣 E Γ2 Γ3 return Δ (pass Γ2 Γ3 (n_room Γ2 2 (ty_int w32))) at_3 (g_room 𝓛 E Γ2 2 (ty_int w32) (room_Sc 𝓛 (s_int w32)))
        (g_pre_lem 𝓛 𝓣 E Γ3 Γ4 return Δ (pass Γ3 Γ4 (n_room Γ3 1 (ty_int w))) (at_ret Δ) (g_room 𝓛 E Γ3 1 (ty_int w) (room_Sc 𝓛 (s_int w)))
        (t_return 𝓛 𝓣 E Δ tt)))

    goes : (z : Bool) (xs : List ℕ) → T (small xs) → Typed 𝓛 𝓣 E Γ0 (body z xs) Δ (at_body z xs)
    goes z xs h =
        t_seq 𝓛 𝓣 E Γ0 Γ1 (switch (copy (place 1 [])) (arms z 0 xs)) answer Δ (Φswitch Γ0 Δ1 1 (λ k. k) (arms z 0 xs) (at-arms z 0 xs)) at-answer
        (t_switch 𝓛 E 𝓣 Γ0 1 w (λ k. k) (arms z 0 xs) Δ1 (at-arms z 0 xs) (reads_Sc 𝓛 (s_int w)) refl (each z 0 xs h))
        answers

  -- ---- where the key is n + i, the entry at i is stored

  further : (n i : ℕ) → n + suc i ≡ suc n + i
  further n i = add-suc n i ∙ sym (suc-add n i)

  no_more : {k n : ℕ} → k < n + 0 → n ≤ k → ⊥
  no_more h p = omega arith

  one_more : {k n : ℕ} → n ≤ k → (k ≡ n → ⊥) → suc n ≤ k
  one_more p q = omega arith

  -- N says that the keys below n are passed
  finds : (z : Bool) (n : ℕ) (xs : List ℕ) (N : Type 0) (k : ℕ) (Ψ : Want Δ1) (u : Mo Γ0) → k < n + length xs → (N → n ≤ k)
      → ((i : ℕ) → k ≡ n + i → at_store (get_or xs i 0) Ψ u) → Φarms Γ0 Δ1 (arms z n xs) (at-arms z n xs) N k Ψ u
  finds true n [] N k Ψ u h past at = λ m. absurd (no_more h (past m))
  finds false n [] N k Ψ u h past at = λ m. no_more h (past m)
  finds z n (x ∷ xs) N k Ψ u h past at = (
    λ e. at 0 (e ∙ sym (add-zero n)),
    finds z (suc n) xs (N × (OneOf (n ∷ []) k → ⊥)) k Ψ u (subst (λ (m : ℕ). k < m) (further n (length xs)) h) (λ m. one_more (past m.0) m.1)
        (λ i e. at (suc i) (e ∙ sym (further n i))),
  )

  -- ---- the contract

  -- the argument is one of the keys, and the entry there meets the `ensures`
  abbrev pub Meets : List ℕ → In 0 ps → Out 0 ps r → Type 0
  Meets xs Pre Post =
      (κs : Lfts 0) (a : Dens κs ps) → GoodsP κs ps a → Pre κs a
      → (a.0 < length xs) × ((s : AtExit (ended_of 0 ps r) κs) → Post κs a (get_or xs a.0 0) s)

  module _ (z : Bool) (xs : List ℕ) (Pre : In 0 ps) (Post : Out 0 ps r) (meets : Meets xs Pre Post) where
    asked : (κs : Lfts 0) (qs : Shares 0) (a : Dens κs ps) → GoodsP κs ps a → Pre κs a → (bs : List ℕ)
        → at_body z xs (want_q 0 ps r others 0 κs qs a (Post κs a)) (init 0 ps r others 0 κs qs a)
    asked κs qs a good pre bs =
        let m = meets κs a good pre in
        let at : (i : ℕ) → a.0 ≡ 0 + i → Post κs a (get_or xs i 0) (a.0, tt) =
        λ i e. subst (λ (n : ℕ). Post κs a (get_or xs n 0) (a.0, tt)) (e ∙ zero-add i) (m.1 (a.0, tt)) in
        finds z 0 xs (Unit {0}) a.0 _ _ (subst (λ (n : ℕ). a.0 < n) (sym (zero-add (length xs))) m.0) (λ n. zero-le) (λ i e. ((tt, tt), at i e))

    pub matched : {M : Type 1} {𝓤 : Ura M} (𝓛 : Logic 𝓤) (𝓣 : Tables 𝓤 𝓛.H) → T (small xs)
        → Triple 𝓤 (WpFn 𝓤 𝓛.H 𝓣.C 𝓣.Λ (fn_of z xs)) (plain_of 𝓛 0 ps r Pre Post)
    matched 𝓛 𝓣 h = t_fn_plain 𝓛 𝓣 0 ps r others 0 homes (body z xs) (λ κs qs bs. at_body z xs) (λ κs qs bs bd. goes 𝓛 𝓣 bs z xs h) Pre Post asked
