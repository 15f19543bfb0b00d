-- Frames in the order in which they were pushed, and the entries of a stack.
use Rattle.std.proofs.Common.{◌≡◌, ◌≤◌, ℕ, length, arith, List, [], ◌∷◌, ◌++◌, Option, Some, None, refl, ap, sym, ◌∙◌}
use Rattle.std.specs.Prelude.{option_to_list}
use Rattle.std.specs.List.{AllZip}
use Rattle.std.specs.Option.{MatchOption}
use Rattle.actx_suspend.specs.Stack.{Entry, Frame, entries_onto, entries_of, top_of, below_of, StackSame}

onto_more : {F : Type 0} (fs : List F) (f : F) (es : List (Entry F)) → entries_onto (fs ++ f ∷ []) es ≡ Frame f ∷ entries_onto fs es
onto_more [] f es = refl
onto_more (g ∷ fs) f es = onto_more fs f (Frame g ∷ es)

pub entries_more : {F : Type 0} (fs gs : List F) (f : F) → gs ≡ fs ++ f ∷ [] → entries_of gs ≡ Frame f ∷ entries_of fs
entries_more fs gs f h = ap entries_of h ∙ onto_more fs f []

onto_same : {F : Type 0} (S : F → F → Type 0) (fs gs : List F) (es ds : List (Entry F)) → AllZip S fs gs → StackSame S es ds → StackSame S (entries_onto fs es) (entries_onto gs ds)
onto_same S [] [] es ds h k = k
onto_same S [] (g ∷ gs) es ds h k = absurd h
onto_same S (f ∷ fs) [] es ds h k = absurd h
onto_same S (f ∷ fs) (g ∷ gs) es ds h k = onto_same S fs gs (Frame f ∷ es) (Frame g ∷ ds) h.1 (h.0, k)

pub entries_same : {F : Type 0} (S : F → F → Type 0) (fs gs : List F) → AllZip S fs gs → StackSame S (entries_of fs) (entries_of gs)
entries_same S fs gs h = onto_same S fs gs [] [] h tt

-- what a list without its last item answers
none_left : {F : Type 0} (fs : List F) → length fs ≡ 0 → fs ≡ []
none_left [] h = refl
none_left (f ∷ fs) h = absurd (omega (arith, h))

pub popped_top : {F : Type 0} (X : Type 0) (Y : F → Type 0) (fs gs : List F) (o : Option F) (n : ℕ) → n ≡ length fs → fs ≡ gs ++ option_to_list o → MatchOption o ((n ≡ 0) × X) Y → o ≡ top_of (entries_of fs)
popped_top X Y fs gs None n long h m = sym (ap (λ z. top_of (entries_of z)) (none_left fs (sym long ∙ m.0)))
popped_top X Y fs gs (Some f) n long h m = sym (ap top_of (entries_more gs fs f h))

pub popped_rest : {F : Type 0} (X : Type 0) (Y : F → Type 0) (fs gs : List F) (o : Option F) (n : ℕ) → n ≡ length fs → length gs ≤ length fs → fs ≡ gs ++ option_to_list o → MatchOption o ((n ≡ 0) × X) Y → entries_of gs ≡ below_of (entries_of fs)
popped_rest X Y fs gs None n long short h m =
    let none : fs ≡ [] = none_left fs (sym long ∙ m.0) in
    ap entries_of (none_left gs (omega (arith, long, short, m.0))) ∙ sym (ap (λ z. below_of (entries_of z)) none)
popped_rest X Y fs gs (Some f) n long short h m = sym (ap below_of (entries_more gs fs f h))
