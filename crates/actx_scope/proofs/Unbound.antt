-- What an expression offends doesn't depend on the names of its scope that stand before, and what is known doesn't change
-- behind them.
use Rattle.std.proofs.Common.{◌≡◌, ℕ, suc, ◌+◌, List, [], ◌∷◌, ◌++◌, length, if◌then◌else◌, true, refl, sym, ◌∙◌, ap, append_assoc}
use Rattle.actx_grammar.specs.Nodes.{expr_nodes, key_nodes, prop_key_nodes}
use Rattle.actx_grammar.specs.Static.{Offence, Place, twice, reserved, is_among, unbindable, offends_if, behind, all_behind, params_offences, expr_offences, exprs_offences, maybe_offences, key_offences, prop_key_offences, properties_offences}
use Rattle.actx_grammar.specs.Tree.{Expr, Num, Text, Truth, Null, Undefined, This, Named, Unary, Binary, Logic, Choice, SetName, SetMember, Change, Bump, Member, Call, Object, Function, Yield, YieldAll, Await, Built, Exprs, none, also, MaybeExpr, no_expr, some_expr, Key, Dot, Index, PropKey, Fixed, Computed, Properties, no_properties, property, code}
use Rattle.actx_scope.specs.Found.{outer_part}
use Rattle.actx_scope.proofs.NameLists.{outer_behind}

both : {xs ys zs ws : List Offence} → xs ≡ ys → zs ≡ ws → xs ++ zs ≡ ys ++ ws
both e f = (λ i. e i ++ f i)

mutual
  pub expr_unbound : (b : List (List ℕ)) (p : Place) (n : ℕ) (e : Expr) → expr_offences (record p { bound = b }) n e ≡ expr_offences p n e
  expr_unbound b p n (Num m) = refl
  expr_unbound b p n (Text u) = refl
  expr_unbound b p n (Truth t) = refl
  expr_unbound b p n Null = refl
  expr_unbound b p n Undefined = refl
  expr_unbound b p n This = refl
  expr_unbound b p n (Named x) = refl
  expr_unbound b p n (Unary op e) = expr_unbound b p (suc n) e
  expr_unbound b p n (Binary op x y) = both (expr_unbound b p (suc n) x) (expr_unbound b p (suc n + expr_nodes x) y)
  expr_unbound b p n (Logic op x y) = both (expr_unbound b p (suc n) x) (expr_unbound b p (suc n + expr_nodes x) y)
  expr_unbound b p n (Choice e x y) = both (both (expr_unbound b p (suc n) e) (expr_unbound b p (suc n + expr_nodes e) x)) (expr_unbound b p (suc n + expr_nodes e + expr_nodes x) y)
  expr_unbound b p n (SetName x e) = both refl (expr_unbound b p (suc n) e)
  expr_unbound b p n (SetMember x key e) = both (both (expr_unbound b p (suc n) x) (key_unbound b p (suc n + expr_nodes x) key)) (expr_unbound b p (suc n + expr_nodes x + key_nodes key) e)
  expr_unbound b p n (Change x op e) = both refl (expr_unbound b p (suc n) e)
  expr_unbound b p n (Bump x up before) = refl
  expr_unbound b p n (Member x key) = both (expr_unbound b p (suc n) x) (key_unbound b p (suc n + expr_nodes x) key)
  expr_unbound b p n (Call f es) = both (expr_unbound b p (suc n) f) (exprs_unbound b p (suc n + expr_nodes f) es)
  expr_unbound b p n (Object ps) = properties_unbound b p (suc n) ps
  expr_unbound b p n (Function (code x kind xs ss)) = refl
  expr_unbound b p n (Yield o) = both refl (maybe_unbound b p (suc n) o)
  expr_unbound b p n (YieldAll e) = both refl (expr_unbound b p (suc n) e)
  expr_unbound b p n (Await e) = both refl (expr_unbound b p (suc n) e)
  expr_unbound b p n (Built form es) = exprs_unbound b p (suc n) es

  pub exprs_unbound : (b : List (List ℕ)) (p : Place) (n : ℕ) (es : Exprs) → exprs_offences (record p { bound = b }) n es ≡ exprs_offences p n es
  exprs_unbound b p n none = refl
  exprs_unbound b p n (also e es) = both (expr_unbound b p n e) (exprs_unbound b p (n + expr_nodes e) es)

  pub maybe_unbound : (b : List (List ℕ)) (p : Place) (n : ℕ) (o : MaybeExpr) → maybe_offences (record p { bound = b }) n o ≡ maybe_offences p n o
  maybe_unbound b p n no_expr = refl
  maybe_unbound b p n (some_expr e) = expr_unbound b p n e

  pub key_unbound : (b : List (List ℕ)) (p : Place) (n : ℕ) (key : Key) → key_offences (record p { bound = b }) n key ≡ key_offences p n key
  key_unbound b p n (Dot x) = refl
  key_unbound b p n (Index e) = expr_unbound b p n e

  pub prop_key_unbound : (b : List (List ℕ)) (p : Place) (n : ℕ) (key : PropKey) → prop_key_offences (record p { bound = b }) n key ≡ prop_key_offences p n key
  prop_key_unbound b p n (Fixed u) = refl
  prop_key_unbound b p n (Computed e) = expr_unbound b p n e

  pub properties_unbound : (b : List (List ℕ)) (p : Place) (n : ℕ) (ps : Properties) → properties_offences (record p { bound = b }) n ps ≡ properties_offences p n ps
  properties_unbound b p n no_properties = refl
  properties_unbound b p n (property key e ps) = both (both (prop_key_unbound b p n key) (expr_unbound b p (n + prop_key_nodes key) e)) (properties_unbound b p (n + prop_key_nodes key + expr_nodes e) ps)

-- what parameters offend depends on the names before them alone
pub params_alike : (p q : Place) (n : ℕ) (xs : List (List ℕ)) → p.bound ≡ q.bound → params_offences p n xs ≡ params_offences q n xs
params_alike p q n [] e = refl
params_alike p q n (x ∷ xs) e =
    both (ap (λ (b : List (List ℕ)). if is_among b x then offends_if true n twice else offends_if (is_among unbindable x) n reserved) e)
    (params_alike (behind x p) (behind x q) (suc n) xs (ap (λ (b : List (List ℕ)). x ∷ b) e))

-- names bound behind others are the first of the list, and leave all else
all_behind_is : (xs : List (List ℕ)) (p : Place) → (ys : List (List ℕ)) × (all_behind xs p ≡ record p { bound = ys ++ p.bound })
all_behind_is [] p = ([], refl)
all_behind_is (x ∷ xs) p =
    let rest = all_behind_is xs (behind x p) in
    (rest.0 ++ x ∷ [], rest.1 ∙ ap (λ (b : List (List ℕ)). record p { bound = b }) (sym (append_assoc rest.0 (x ∷ []) p.bound)))

-- leaving them gives the place back
pub behind_left : (xs : List (List ℕ)) (p : Place) → record (all_behind xs p) { bound = outer_part (length p.bound) (all_behind xs p).bound } ≡ p
behind_left xs p =
    let more = all_behind_is xs p in
    ap (λ (q : Place). record q { bound = outer_part (length p.bound) q.bound }) more.1 ∙ ap (λ (b : List (List ℕ)). record p { bound = b }) (outer_behind more.0 p.bound)
