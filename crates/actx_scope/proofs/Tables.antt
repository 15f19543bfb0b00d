-- A table of declarations where one more becomes known, and where the last is forgotten.
use Rattle.std.proofs.Common.{◌≡◌, ℕ, ◌+◌, Bool, true, false, cond, List, [], ◌∷◌, ◌++◌, length, Option, Some, None, IsSome, if◌then◌else◌, refl, sym, ◌∙◌, ap, arith, rules}
use Rattle.std.specs.HashMap.{HashMap, get, Updates}
use Rattle.actx_grammar.specs.Static.{Declared, declared, same_name}
use Rattle.actx_scope.specs.declared.known.Hidden.{Hidden}
use Rattle.actx_scope.specs.Found.{found, joined}
use Rattle.actx_scope.specs.Tables.{stacked, AreHidden, looked_up, Fits}
use Rattle.actx_scope.proofs.NameLists.{same_is, same_self}

pub stacked_push : (ks : List Declared) (hs : List Hidden) (h : Hidden) → stacked ks (hs ++ h ∷ []) ≡ declared h.name h.node ∷ stacked ks hs
stacked_push ks [] h = refl
stacked_push ks (g ∷ hs) h = stacked_push (declared g.name g.node ∷ ks) hs h

pub length-stacked : (ks : List Declared) (hs : List Hidden) → length (stacked ks hs) ≡ length ks + length hs
length-stacked ks [] = omega arith
length-stacked ks (h ∷ hs) = omega (arith, length-stacked (declared h.name h.node ∷ ks) hs)

hidden_push : (ks : List Declared) (hs : List Hidden) (h : Hidden) → AreHidden ks hs → h.before ≡ found (stacked ks hs) h.name → AreHidden ks (hs ++ h ∷ [])
hidden_push ks [] h a e = (e, tt)
hidden_push ks (g ∷ hs) h a e = (a.0, hidden_push (declared g.name g.node ∷ ks) hs h a.1 e)

hidden_front : (ks : List Declared) (hs : List Hidden) (h : Hidden) → AreHidden ks (hs ++ h ∷ []) → AreHidden ks hs
hidden_front ks [] h a = tt
hidden_front ks (g ∷ hs) h a = (a.0, hidden_front (declared g.name g.node ∷ ks) hs h a.1)

hidden_last : (ks : List Declared) (hs : List Hidden) (h : Hidden) → AreHidden ks (hs ++ h ∷ []) → h.before ≡ found (stacked ks hs) h.name
hidden_last ks [] h a = a.0
hidden_last ks (g ∷ hs) h a = hidden_last (declared g.name g.node ∷ ks) hs h a.1

some_of : (o : Option (Option ℕ)) (n : ℕ) → joined o ≡ Some n → IsSome o
some_of None n e = absurd cc
some_of (Some o) n e = search rules

module _ {S : Type 0} (m n : HashMap (List ℕ) (Option ℕ) S) (hs : List Hidden) (h : Hidden) where
  -- one more
  pub fits_pushed : Fits m hs → h.before ≡ looked_up m h.name → Updates same_name m n h.name (Some (Some h.node)) → Fits n (hs ++ h ∷ [])
  fits_pushed f e u = record {
    agree = λ x. ap joined (u.0 x) ∙ at x (same_name h.name x) ∙ sym (ap (λ (ks : List Declared). found ks x) (stacked_push [] hs h));
    hidden = hidden_push [] hs h f.hidden (e ∙ f.agree h.name);
  }
    where
      at : (x : List ℕ) (b : Bool) → joined (cond b (Some (Some h.node)) (get same_name m x)) ≡ (if b then Some h.node else found (stacked [] hs) x)
      at x true = refl
      at x false = f.agree x

  -- one less
  pub fits_popped : Fits m (hs ++ h ∷ []) → (IsSome (get same_name m h.name) → Updates same_name m n h.name (Some h.before)) → Fits n hs
  fits_popped f put = record {
    agree = λ x. ap joined (u.0 x) ∙ at x (same_name h.name x) refl;
    hidden = hidden_front [] hs h f.hidden;
  }
    where
      known : (x : List ℕ) → looked_up m x ≡ (if same_name h.name x then Some h.node else found (stacked [] hs) x)
      known x = f.agree x ∙ ap (λ (ks : List Declared). found ks x) (stacked_push [] hs h)

      own : looked_up m h.name ≡ Some h.node
      own = known h.name ∙ ap (λ (b : Bool). if b then Some h.node else found (stacked [] hs) h.name) (same_self h.name)

      u : Updates same_name m n h.name (Some h.before)
      u = put (some_of (get same_name m h.name) h.node own)

      at : (x : List ℕ) (b : Bool) → same_name h.name x ≡ b → joined (cond b (Some h.before) (get same_name m x)) ≡ found (stacked [] hs) x
      at x true e = hidden_last [] hs h f.hidden ∙ ap (found (stacked [] hs)) (same_is h.name x e)
      at x false e = known x ∙ ap (λ (b : Bool). if b then Some h.node else found (stacked [] hs) x) e
