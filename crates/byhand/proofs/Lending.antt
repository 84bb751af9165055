-- A `&κ mut [R]` whose elements are lent on for a lifetime κ' of a call, and come back: `&mut *s`, and `&*s`.
--     Open             the borrow while its elements are elsewhere: open, with both halves of its ghost variable
--     opened, closed   the slice is opened, and its elements stand in memory; elements in memory, as many, close it again
--     LentAgain, lends_again, comes_back      lent to be written: what is kept, the new `&κ' mut [R]`, and the slice again at the new one's last list
--     LentShared, lends_shared, shared_back   lent to be read: the same of a `&κ' [R]`, by R's law (`Denote/Shares.antt`), with tokens, which come back; the slice is as it was
-- Assumes `Logic`.
use mathlib.Core.Path.{◌≡◌, refl, sym, ap, subst}
use Prim.Native.Nat.{ℕ}
use mathlib.Core.List.{List, [], ◌∷◌}
use lib.ListN.{length}
use seplogic.Ra.Ura.{Ura}
use base.Fraction.{full_share}
use mir.Syntax.{Lifetime}
use mir.Val.{Val}
use base.Logic.{SProp, ent, sep, ex}
use base.Fml.{Lft, GName, Share, Fml, Incl, fsep, flft, fdead, fobs, fauth, flent, fobor}
use ghost.Rules.{Toks, span}
use types.Logic.{Logic, sem, lfts}
use contract.Monad.{fact, fact_i}
use types.Kit.{‵, raw, ◌⊛◌, some, later, ◌$◌, ◌∵◌, !, qed, move, use0, use1, use2, use3, drop, split, pick, fsplit, fjoin, feq_i, join, frame, await, updating, now as at_once, show, done}
use types.SemTy.{cells, Arr}
use types.Share.{arr_parts}
use types.Tokens.{lent_back}
use denote.RattleType.{RattleType}
use denote.Shadow.{pure_l, pure_i}
use denote.Memory.{mem, shares}
use denote.Shares.{Shares}
use denote.Ref.{Bor, MutBor}
use denote.Slice.{slice_val, MutSlice, ShrSlice, heres, Room, finally, mut_slice_at, coded_holeys}
use denote.Steps.{heard}
use denote.Lend.{Held, lends_slice, slice_back, lends_shr_slice}
use denote.Index.{row, whole_out, whole_in, opens_slice, closes_slice}

abbrev at_list : (R : RattleType) → ℕ → ℕ → GName → List R.Denot → MutBor (List R.Denot)
at_list R b o δ l = record { ref_ptr = (b, o); ghost_name = δ; now = l }

-- the shared one, which has no name
abbrev shown_list : (R : RattleType) → ℕ → ℕ → List R.Denot → Bor (List R.Denot)
shown_list R b o l = record { ref_ptr = (b, o); now = l }

module _ (R : RattleType) (κ : Lft) (q : Share) (γ : GName) (b o : ℕ) where
  abbrev Open : List R.Denot → Fml
  Open ys = fsep (fobor κ q (Held R (length ys) b o γ)) (fsep (fobs γ ((coded_holeys R).code (heres R ys))) (fauth γ ((coded_holeys R).code (heres R ys))))

  module _ {M : Type 1} {𝓤 : Ura M} (𝓛 : Logic 𝓤) (ℓ : Lifetime) (ys : List R.Denot) where
    open 𝓛 use {H, A}

    abbrev vals : List Val
    vals = slice_val (b, o) (length ys) ∷ []

    -- what the slice owns at the list l, and the token
    abbrev Whole : List R.Denot → SProp 𝓤
    Whole l = sep 𝓤 (sem 𝓛 ((MutSlice ℓ κ R).own_val (at_list R b o γ l) vals)) (A.lft κ q)

    opened : ent 𝓤 (Whole ys) (H.⇛ (sep 𝓤 (sem 𝓛 (row R full_share ys b o)) (sep 𝓤 (sem 𝓛 (Open ys)) (fact 𝓤 (Room R (length ys))))))
    opened =
        qed 𝓛 (‵ ((MutSlice ℓ κ R).own_val (at_list R b o γ ys) vals) ∷ ‵ (flft κ q) ∷ []) ∵ updating ! $ fsplit ! $ pure_l ! (mut_slice_at R (at_list R b o γ ys) vals) (λ p. fsplit ! $ opens_slice ! tt R ys b o $ at_once ! $ frame ! $
        -- [the open borrow; obs; auth]
        move ! (1 ∷ 2 ∷ []) $ fjoin ! $ move ! (1 ∷ 0 ∷ []) $ fjoin ! $ use0 𝓛 (raw (fact 𝓤 (Room R (length ys)))) (fact_i 𝓤 (Room R (length ys)) _ p.1) $ move ! (1 ∷ 0 ∷ []) $ done !)

    closed : (zs : List R.Denot) → Room R (length ys) → length zs ≡ length ys → ent 𝓤 (sep 𝓤 (sem 𝓛 (row R full_share zs b o)) (sem 𝓛 (Open ys))) (H.⇛ (Whole zs))
    closed zs room e =
        qed 𝓛 (‵ (row R full_share zs b o) ∷ ‵ (Open ys) ∷ []) ∵ updating ! $ move ! (1 ∷ []) $ fsplit ! $ move ! (1 ∷ []) $ fsplit ! $
        -- [obs; auth; the open borrow; the elements]
        move ! (3 ∷ 2 ∷ []) $ closes_slice ! tt R ys zs e b o $ at_once ! $ fjoin ! $
        pure_i ! (mut_slice_at R (at_list R b o γ zs) vals) (tt, (tt, tt)) (ap (λ (m : ℕ). slice_val (b, o) m ∷ []) (sym e), subst (Room R) (sym e) room) $ fjoin ! $ done !

module _ (R : RattleType) (κ κ' : Lft) (q : Share) (γ : GName) (b o : ℕ) where
  abbrev pub LentAgain : GName → List R.Denot → Fml
  LentAgain δ ys = fsep (flent κ' (Held R (length ys) b o δ)) (Open R κ q γ b o ys)

  module _ {M : Type 1} {𝓤 : Ura M} (𝓛 : Logic 𝓤) (ℓ ℓ' : Lifetime) (ys : List R.Denot) where
    -- the new slice under δ, and what is kept
    open 𝓛 use {H, A}

    abbrev Lent : GName → SProp 𝓤
    Lent δ = sep 𝓤 (sem 𝓛 ((MutSlice ℓ' κ' R).own_val (at_list R b o δ ys) (slice_val (b, o) (length ys) ∷ []))) (sem 𝓛 (LentAgain δ ys))

    pub lends_again : ent 𝓤 (Whole R κ q γ b o 𝓛 ℓ ys ys) (H.⇛ (ex 𝓤 Lent))
    lends_again =
        qed 𝓛 (raw (Whole R κ q γ b o 𝓛 ℓ ys ys) ∷ []) ∵ updating ! $ use1 𝓛 (later (‵ (row R full_share ys b o) ⊛ ‵ (Open R κ q γ b o ys) ⊛ raw (fact 𝓤 (Room R (length ys))))) (opened R κ q γ b o 𝓛 ℓ ys) $ await ! tt $ split ! $ move ! (1 ∷ []) $ split ! $ move ! (1 ∷ []) $
        heard ! (Room R (length ys)) (λ room. move ! (1 ∷ []) $ use1 𝓛 (‵ (cells (mem R) ys b o)) (whole_in 𝓛 R ys b o) $
        use1 𝓛 (later (some (λ (δ : GName). ‵ ((MutSlice ℓ' κ' R).own_val (at_list R b o δ ys) (slice_val (b, o) (length ys) ∷ [])) ⊛ ‵ (flent κ' (Held R (length ys) b o δ))))) (lends_slice 𝓛 R ℓ' κ' ys b o room) $ await ! tt $ pick ! (λ δ. split ! $
        at_once ! $ show ! Lent δ $ frame ! $ fjoin ! $ done !))

    pub comes_back : (δ : GName) (zs : List R.Denot) → Room R (length ys) → length zs ≡ length ys → ent 𝓤 (sep 𝓤 (A.dead κ') (sep 𝓤 (sem 𝓛 (LentAgain δ ys)) (sem 𝓛 (finally R δ zs)))) (H.⇛ (Whole R κ q γ b o 𝓛 ℓ ys zs))
    comes_back δ zs room e =
        qed 𝓛 (‵ (fdead κ') ∷ ‵ (LentAgain δ ys) ∷ ‵ (finally R δ zs) ∷ []) ∵ updating ! $ move ! (1 ∷ []) $ fsplit ! $ move ! (2 ∷ 0 ∷ 3 ∷ []) $
        use3 𝓛 (later (‵ ((Arr (mem R) (length ys)).own_at zs b o))) (slice_back 𝓛 R κ' δ zs (length ys) b o) $ await ! tt $ fsplit ! $ drop ! $ use1 𝓛 (‵ (row R full_share zs b o)) (whole_out 𝓛 R zs b o) $
        use2 𝓛 (later (raw (Whole R κ q γ b o 𝓛 ℓ ys zs))) (closed R κ q γ b o 𝓛 ℓ ys zs room e) $ await ! tt $ at_once ! $ done !

module _ (R : RattleType) (κ κ' : Lft) (q : Share) (γ : GName) (b o : ℕ) (ys : List R.Denot) where
  abbrev All : Fml
  All = (arr_parts (shares R) (length ys)).part full_share ys b o

  abbrev pub LentShared : Fml
  LentShared = fsep (flent κ' All) (Open R κ q γ b o ys)

  module _ {M : Type 1} {𝓤 : Ura M} (𝓛 : Logic 𝓤) (ℓ ℓ' : Lifetime) where
    open 𝓛 use {H, A}

    abbrev Shown : SProp 𝓤
    Shown = sep 𝓤 (sem 𝓛 ((ShrSlice ℓ' κ' R).own_val (shown_list R b o ys) (slice_val (b, o) (length ys) ∷ []))) (sem 𝓛 LentShared)

    pub lends_shared : (l : Lft) → Shares 𝓛 R l → (ts : Toks) → Incl (span ts) l → Incl (span ts) κ' → ent 𝓤 (sep 𝓤 (Whole R κ q γ b o 𝓛 ℓ ys ys) (lfts 𝓛 ts)) (H.⇛ (sep 𝓤 Shown (lfts 𝓛 ts)))
    lends_shared l s ts inc sp =
        qed 𝓛 (raw (Whole R κ q γ b o 𝓛 ℓ ys ys) ∷ raw (lfts 𝓛 ts) ∷ []) ∵ updating ! $ use1 𝓛 (later (‵ (row R full_share ys b o) ⊛ ‵ (Open R κ q γ b o ys) ⊛ raw (fact 𝓤 (Room R (length ys))))) (opened R κ q γ b o 𝓛 ℓ ys) $ await ! tt $ split ! $ move ! (1 ∷ []) $ split ! $ move ! (1 ∷ []) $
        heard ! (Room R (length ys)) (λ room. move ! (1 ∷ []) $ feq_i ! ℕ (length ys) (length ys) refl $ fjoin ! $ move ! (0 ∷ 2 ∷ []) $
        use2 𝓛 (later ((‵ ((ShrSlice ℓ' κ' R).own_val (shown_list R b o ys) (slice_val (b, o) (length ys) ∷ [])) ⊛ ‵ (flent κ' All)) ⊛ raw (lfts 𝓛 ts))) (lends_shr_slice 𝓛 R ℓ' κ' full_share ys b o room l s ts inc sp) $ await ! tt $ split ! $ split ! $
        at_once ! $ move ! (1 ∷ 3 ∷ []) $ fjoin ! $ move ! (1 ∷ 0 ∷ []) $ join ! $ done !)

    pub shared_back : Room R (length ys) → ent 𝓤 (sep 𝓤 (A.dead κ') (sem 𝓛 LentShared)) (H.⇛ (Whole R κ q γ b o 𝓛 ℓ ys ys))
    shared_back room =
        qed 𝓛 (‵ (fdead κ') ∷ ‵ LentShared ∷ []) ∵ updating ! $ move ! (1 ∷ []) $ fsplit ! $ move ! (2 ∷ 0 ∷ []) $ lent_back ! tt $ fsplit ! $ drop ! $
        use2 𝓛 (later (raw (Whole R κ q γ b o 𝓛 ℓ ys ys))) (closed R κ q γ b o 𝓛 ℓ ys ys room refl) $ await ! tt $ at_once ! $ done !
