-- The walk notes the places of nodes: properties, told by what stands behind their keys.
use Rattle.std.proofs.Common.{◌≡◌, ℕ, zero, suc, ◌+◌, List, [], ◌∷◌, ◌++◌, length, Bool, true, false, ◌&&◌, if◌then◌else◌, Option, Some, None, refl, sym, ◌∙◌, ap, subst, arith, append_assoc}
use Rattle.std.proofs.lemmas.List.{append-nil, length-append}
use Rattle.actx_grammar.specs.declared.operators.FunctionKind.{FunctionKind}
use Rattle.actx_grammar.specs.declared.operators.FunctionKind.TheVariants.{Normal, Arrow, Generator, Async, AsyncArrow, AsyncGenerator}
use Rattle.actx_grammar.specs.declared.side.Side.{Side}
use Rattle.actx_grammar.specs.declared.token.Keyword.TheVariants as k
use Rattle.actx_grammar.specs.declared.token.Sign.{Sign}
use Rattle.actx_grammar.specs.declared.token.Sign.TheVariants as s
use Rattle.actx_grammar.specs.declared.token.TokenKind.{TokenKind}
use Rattle.actx_grammar.specs.declared.token.TokenKind.TheVariants as t
use Rattle.actx_grammar.specs.Grammar.{SpellsPropKey, sp_fixed, sp_computed, SpellsMethodHead, sp_method_head, sp_generator_head, sp_async_head, SpellsParams, sp_no_params, sp_params, sp_params_comma, Spells}
use Rattle.actx_grammar.specs.Lexemes.{Lexeme, sign, keyword, lexeme}
use Rattle.actx_grammar.specs.Names.{key_of}
use Rattle.actx_grammar.specs.Places.{params_places}
use Rattle.actx_grammar.specs.Tree.{Expr, Function, PropKey, Fixed, Computed, Stmts, code}
use Rattle.actx_places.specs.Walk.{Group, group, Walk, walk, at, rest, is_sign, is_async, starts_with, begins_async, has_head, step, pass_if, mark_at, leave, begin, by_next, spine, prop_key, method, params, stmts}
use Rattle.actx_places.proofs.WalkSteps.{Goes, goes_end, goes_step, goes_mark, goes_before, goes_last, goes_as}
use Rattle.actx_places.proofs.WalkRows.{params_go}
use Rattle.actx_places.proofs.WalkLists.{whole}

-- a key is no sign
no_star : (w : TokenKind) (u : List ℕ) → key_of w ≡ Some u → is_sign s.Star w ≡ false
no_star (t.Name x) u e = refl
no_star (t.Keyword x) u e = refl
no_star (t.Text x) u e = refl
no_star (t.Sign x) u e = absurd (cc)
no_star (t.Number x) u e = absurd (cc)

no_colon : (w : TokenKind) (u : List ℕ) → key_of w ≡ Some u → is_sign s.Colon w ≡ false
no_colon (t.Name x) u e = refl
no_colon (t.Keyword x) u e = refl
no_colon (t.Text x) u e = refl
no_colon (t.Sign x) u e = absurd (cc)
no_colon (t.Number x) u e = absurd (cc)

and_false : (b : Bool) → (b && false) ≡ false
and_false true = refl
and_false false = refl

-- nothing stands before a key behind which a colon does
no_word : {side : Side} {most : Option ℕ} {d : ℕ} {key : PropKey} {x : List Lexeme} (kind : FunctionKind) (name : Option (List ℕ)) (xs : List (List ℕ)) (ss : Stmts) (b : Bool) (r : List Lexeme) → SpellsPropKey side most d key x → has_head (Function (code name kind xs ss)) (x ++ sign s.Colon b ∷ r) ≡ false
no_word Generator name xs ss b r (sp_fixed {u = u} {w = w} h e) = no_star w.kind u e
no_word Generator name xs ss b r (sp_computed c d p) = refl
no_word Async name xs ss b r (sp_fixed {w = w} h e) = and_false (is_async w.kind)
no_word Async name xs ss b r (sp_computed c d p) = refl
no_word Normal name xs ss b r p = refl
no_word _ name xs ss b r p = refl

no_head : {side : Side} {most : Option ℕ} {d : ℕ} {key : PropKey} {x : List Lexeme} (e : Expr) (b : Bool) (r : List Lexeme) → SpellsPropKey side most d key x → has_head e (x ++ sign s.Colon b ∷ r) ≡ false
no_head (Function (code name kind xs ss)) b r p = no_word kind name xs ss b r p
no_head _ b r p = refl

-- a key with its value
pub colon_goes : {side : Side} {most : Option ℕ} {d : ℕ} {key : PropKey} (e : Expr) {x y : List Lexeme} {p q : ℕ → List ℕ} (b : Bool) → SpellsPropKey side most d key x → Goes (prop_key key) x p → Goes (λ w. leave (spine e (begin w))) y q → Goes (whole key e) (x ++ sign s.Colon b ∷ y) (λ n. p n ++ q (suc (n + length x)))
colon_goes {key = key} e {x = x} {y = y} {p = p} {q = q} b k hk he = record {
  passes = λ n ts ps gs.
      (let i : has_head e ((x ++ sign s.Colon b ∷ y) ++ ts) ≡ false = ap (has_head e) (append_assoc x (sign s.Colon b ∷ y) ts) ∙ no_head e b (y ++ ts) k in
      ap (λ z. by_next (λ v. leave (spine e (begin (step v)))) (method e n) (mark_at n) (prop_key key (pass_if z (walk n ((x ++ sign s.Colon b ∷ y) ++ ts) ps gs)))) i)
      ∙ ap (λ z. by_next (λ v. leave (spine e (begin (step v)))) (method e n) (mark_at n) (prop_key key (walk n z ps gs))) (append_assoc x (sign s.Colon b ∷ y) ts)
      ∙ ap (by_next (λ v. leave (spine e (begin (step v)))) (method e n) (mark_at n)) (hk.passes n (sign s.Colon b ∷ (y ++ ts)) ps gs)
      ∙ he.passes (suc (n + length x)) ts (ps ++ p n) gs
      ∙ (let i : length (x ++ sign s.Colon b ∷ y) ≡ length x + suc (length y) = length-append x (sign s.Colon b ∷ y) in
      let j : suc (n + length x) + length y ≡ n + length (x ++ sign s.Colon b ∷ y) = omega arith in
      let m = append_assoc ps (p n) (q (suc (n + length x))) in cc);
}

-- a method that begins at m
goes_mark_at : {f : Walk → Walk} {y : List Lexeme} {q : ℕ → List ℕ} (m : ℕ) → Goes f y q → Goes (λ w. f (mark_at m w)) y (λ n. m ∷ q n)
goes_mark_at {y = y} {q = q} m h = record { passes = λ n ts ps gs. h.passes n ts (ps ++ m ∷ []) gs ∙ ap (λ z. walk (n + length y) ts z gs) (append_assoc ps (m ∷ []) (q n)) }

-- the parameters of a method stand behind its key
opening : {side : Side} {most : Option ℕ} {xs : List (List ℕ)} {y : List Lexeme} (ts : List Lexeme) → SpellsParams side most xs y → (starts_with s.Colon (y ++ ts) ≡ false) × (starts_with s.OpenParen (y ++ ts) ≡ true)
opening ts sp_no_params = (refl, refl)
opening ts (sp_params b c p i) = (refl, refl)
opening ts (sp_params_comma b c d p i) = (refl, refl)

second : (b : Bool) (v w : Walk) → b ≡ false → (if b then v else w) ≡ w
second true v w e = absurd (cc)
second false v w e = refl

first : (b : Bool) (v w : Walk) → b ≡ true → (if b then v else w) ≡ v
first true v w e = refl
first false v w e = absurd (cc)

by_open : (f g h : Walk → Walk) (w : Walk) → starts_with s.Colon (rest w) ≡ false → starts_with s.OpenParen (rest w) ≡ true → by_next f g h w ≡ g w
by_open f g h w i j = second (starts_with s.Colon (rest w)) (f w) (if starts_with s.OpenParen (rest w) then g w else h w) i ∙ first (starts_with s.OpenParen (rest w)) (g w) (h w) j

pub by_name : (f g h : Walk → Walk) (w : Walk) → starts_with s.Colon (rest w) ≡ false → starts_with s.OpenParen (rest w) ≡ false → by_next f g h w ≡ h w
by_name f g h w i j = second (starts_with s.Colon (rest w)) (f w) (if starts_with s.OpenParen (rest w) then g w else h w) i ∙ second (starts_with s.OpenParen (rest w)) (g w) (h w) j

-- behind the words before a key
pub behind_head : {side : Side} {most : Option ℕ} (key : PropKey) (kind : FunctionKind) {xs : List (List ℕ)} (ss : Stmts) {x y z : List Lexeme} {p q : ℕ → List ℕ} (m : ℕ) (b c : Bool) (a : SpellsParams side most xs y) → Goes (prop_key key) x p → Goes (stmts ss) z q
    → Goes (λ w. by_next (λ v. leave (spine (Function (code None kind xs ss)) (begin (step v)))) (method (Function (code None kind xs ss)) m) (mark_at m) (prop_key key w)) (x ++ y ++ sign s.OpenBrace b ∷ (z ++ sign s.CloseBrace c ∷ [])) (λ n. p n ++ m ∷ (params_places (n + length x) a ++ q (suc (n + length x + length y))))
behind_head key kind {xs = xs} ss {x = x} {y = y} {z = z} {p = p} {q = q} m b c a hk hs =
    let f : Expr = Function (code None kind xs ss) in
    let r : List Lexeme = sign s.OpenBrace b ∷ (z ++ sign s.CloseBrace c ∷ []) in
    let h : Goes (λ w. method f m (prop_key key w)) (x ++ (y ++ r)) (λ n. p n ++ (m ∷ (params_places (n + length x) a ++ q (suc (n + length x + length y))))) =
    goes_before hk (goes_mark_at m (goes_before (params_go a) (goes_step (sign s.OpenBrace b) (goes_last (sign s.CloseBrace c) hs)))) in
    record {
      passes = λ n ts ps gs.
          (let i : (x ++ y ++ r) ++ ts ≡ x ++ (y ++ (r ++ ts)) = append_assoc (x ++ y) r ts ∙ append_assoc x y (r ++ ts) in
          let j = opening (r ++ ts) a in
          ap (λ t. by_next (λ v. leave (spine f (begin (step v)))) (method f m) (mark_at m) (prop_key key (walk n t ps gs))) i
          ∙ ap (by_next (λ v. leave (spine f (begin (step v)))) (method f m) (mark_at m)) (hk.passes n (y ++ (r ++ ts)) ps gs)
          ∙ by_open (λ v. leave (spine f (begin (step v)))) (method f m) (mark_at m) (walk (n + length x) (y ++ (r ++ ts)) (ps ++ p n) gs) j.0 j.1
          ∙ ap (method f m) (sym (hk.passes n (y ++ (r ++ ts)) ps gs))
          ∙ ap (λ t. method f m (prop_key key (walk n t ps gs))) (sym i ∙ ap (λ t. t ++ ts) (append_assoc x y r))
          ∙ h.passes n ts ps gs
          ∙ ap (λ t. walk (n + length t) ts (ps ++ (p n ++ m ∷ (params_places (n + length x) a ++ q (suc (n + length x + length y))))) gs) (sym (append_assoc x y r)));
    }

-- a property that another or the end of its literal follows
pub record Stays (f : Walk → Walk) (x : List Lexeme) (p : ℕ → List ℕ) : Type 0 where
  pub before : (u : Lexeme) → is_sign s.Colon u.kind ≡ false → is_sign s.OpenParen u.kind ≡ false → (n : ℕ) (ts : List Lexeme) (ps : List ℕ) (gs : List Group) → f (walk n (x ++ u ∷ ts) ps gs) ≡ walk (n + length x) (u ∷ ts) (ps ++ p n) gs

pub stays : {f : Walk → Walk} {x : List Lexeme} {p : ℕ → List ℕ} → Goes f x p → Stays f x p
stays h = record { before = λ u i j n ts ps gs. h.passes n (u ∷ ts) ps gs }

async_key : {side : Side} {most : Option ℕ} {d : ℕ} {key : PropKey} {x : List Lexeme} (r : List Lexeme) → SpellsPropKey side most d key x → starts_with s.Colon (x ++ r) ≡ false
async_key r (sp_fixed {u = u} {w = w} h e) = no_colon w.kind u e
async_key r (sp_computed b c p) = refl

-- a method
pub method_goes : {side : Side} {most : Option ℕ} {d : ℕ} {key : PropKey} {kind : FunctionKind} {xs : List (List ℕ)} (ss : Stmts) {w x y z : List Lexeme} {p q : ℕ → List ℕ} (b c : Bool) → SpellsMethodHead side kind w → SpellsPropKey side most d key x → (a : SpellsParams side most xs y) → Goes (prop_key key) x p → Goes (stmts ss) z q
    → Stays (whole key (Function (code None kind xs ss))) (w ++ x ++ y ++ sign s.OpenBrace b ∷ (z ++ sign s.CloseBrace c ∷ [])) (λ n. p (n + length w) ++ n ∷ (params_places (n + length w + length x) a ++ q (suc (n + length w + length x + length y))))
method_goes {key = key} ss {x = x} {y = y} {z = z} {p = p} {q = q} b c sp_method_head k a hk hs = stays (record { passes = λ n ts ps gs. (behind_head key Normal ss n b c a hk hs).passes n ts ps gs ∙ (let i : n + 0 ≡ n = omega arith in cc) })
method_goes {key = key} ss {x = x} {y = y} {z = z} {p = p} {q = q} b c (sp_generator_head {b = g} e) k a hk hs = stays (record { passes = λ n ts ps gs. (behind_head key Generator ss n b c a hk hs).passes (suc n) ts ps gs ∙ (let i : suc n ≡ n + 1 = omega arith in let j : suc n + length (x ++ y ++ sign s.OpenBrace b ∷ (z ++ sign s.CloseBrace c ∷ [])) ≡ n + suc (length (x ++ y ++ sign s.OpenBrace b ∷ (z ++ sign s.CloseBrace c ∷ []))) = omega arith in cc) })
method_goes {key = key} {xs = xs} ss {x = x} {y = y} {z = z} {p = p} {q = q} b c (sp_async_head {b = g} e) kk a hk hs =
    let f : Expr = Function (code None Async xs ss) in
    let r : List Lexeme = x ++ y ++ sign s.OpenBrace b ∷ (z ++ sign s.CloseBrace c ∷ []) in
    stays (record {
      passes = λ n ts ps gs.
          (let e : starts_with s.Colon (r ++ ts) ≡ false = ap (starts_with s.Colon) (append_assoc (x ++ y) (sign s.OpenBrace b ∷ (z ++ sign s.CloseBrace c ∷ [])) ts ∙ append_assoc x y (sign s.OpenBrace b ∷ (z ++ sign s.CloseBrace c ∷ []) ++ ts)) ∙ async_key (y ++ (sign s.OpenBrace b ∷ (z ++ sign s.CloseBrace c ∷ []) ++ ts)) kk in
          ap (λ t. by_next (λ v. leave (spine f (begin (step v)))) (method f n) (mark_at n) (prop_key key (pass_if (if t then false else true) (walk n (keyword k.Async g ∷ (r ++ ts)) ps gs)))) e)
          ∙ (behind_head key Async ss n b c a hk hs).passes (suc n) ts ps gs
          ∙ (let i : suc n ≡ n + 1 = omega arith in let j : suc n + length r ≡ n + suc (length r) = omega arith in cc);
    })
