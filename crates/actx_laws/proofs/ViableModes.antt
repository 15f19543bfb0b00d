-- What was read where something is wanted next, and what a move makes of it.
use Rattle.std.proofs.Common.{◌≡◌, ℕ, suc, ◌≤◌, List, [], ◌∷◌, ◌++◌, length, Bool, true, false, Option, Some, None, refl, sym, subst, append_assoc}
use Rattle.std.specs.Prelude.{codes}
use Rattle.actx_grammar.specs.declared.operators.FunctionKind.{FunctionKind}
use Rattle.actx_grammar.specs.declared.operators.FunctionKind.TheVariants.{Normal, Generator, Async}
use Rattle.actx_grammar.specs.declared.side.Side.{Side}
use Rattle.actx_grammar.specs.declared.side.Side.TheVariants.{Source, Plain}
use Rattle.actx_grammar.specs.declared.token.Keyword.TheVariants as k
use Rattle.actx_grammar.specs.declared.token.Sign.TheVariants as g
use Rattle.actx_grammar.specs.declared.token.TokenKind.{TokenKind}
use Rattle.actx_grammar.specs.declared.token.TokenKind.TheVariants as t
use Rattle.actx_grammar.specs.Forms.{bump_sign}
use Rattle.actx_grammar.specs.Grammar.{Allows, ends_open, SpellsNames, SpellsParams, SpellsMethodHead, KeyFollows, SpellsArrow, SpellsKey, SpellsPropKey, SpellsSome, SpellsBody, SpellsCatch, SpellsStmt}
use Rattle.actx_grammar.specs.Lexemes.{Lexeme, sign, keyword, lexeme, kinds}
use Rattle.actx_grammar.specs.Names.{IsBinding}
use Rattle.actx_grammar.specs.ParserOperands.{has_room}
use Rattle.actx_grammar.specs.ParserState.{Limits, fits, Role, expression, declaration, Head, function_head, ItemsOf, Frame, Mode, start, body_start, have_stmt, need, have, have_member, have_name, have_bump, whole, opened, first_name, closed_name, bump_name, yield_next, async_next, async_start, function_next, name_next, params_open, param_next, param_behind, arrow_sign, arrow_body, body_open, key_next, key_behind, key_name, key_async, key_end, method_key, method_open, member_name, call_open, words_next, let_name, let_behind, const_name, const_behind, jump_end, return_next, throw_next, if_open, while_open, do_while, do_end, for_open, for_next, for_test, for_update, try_open, catch_next, catch_open, catch_name, catch_close, catch_block, finally_next, finally_open, switch_open, switch_brace, clause_next, case_number, case_colon, Move, refuse, go, go_if, here}
use Rattle.actx_grammar.specs.Tree.{Expr, Key, Properties, PropKey, LetItems, ConstItems, Init, MaybeExpr, Stmt, Break, Continue, Stmts, Catch, Clauses}
use Rattle.actx_grammar.specs.Words.{IsName, greatest_number}
use Rattle.actx_laws.proofs.ParseLevels.{level_in}
use Rattle.actx_laws.proofs.ViableParts.{Deep, Well, Starts, May, AsBody, InList, BegunNames}
use Rattle.actx_laws.proofs.ViableOpen.{Sp, Opens, Place, place, InObject, InLets, InConsts, InFor, InTest, Tried, Caught, InSwitch, Headed}

-- the tokens read with an operand behind what is open
pub record Held (lim : Limits) (side : Side) (l : ℕ) (e : Expr) (r : ℕ) (s : List Frame) (p : List Lexeme) : Type 0 where
  pub before : List Lexeme
  pub own : List Lexeme
  pub height : ℕ
  pub at : Place lim side s own before
  pub spells : Sp lim side l height e own
  pub all : before ++ own ≡ p
  pub deep : Deep lim height s r

-- what stands before the name of a function
pub data Heading (side : Side) : FunctionKind → List Lexeme → Type 0 where
  heading_normal : {b : Bool} → Heading side Normal (keyword k.Function b ∷ [])
  heading_generator : {b c : Bool} → side ≡ Source → Heading side Generator (keyword k.Function b ∷ sign g.Star c ∷ [])
  heading_async : {b : Bool} → side ≡ Source → Heading side Async (keyword k.Async b ∷ keyword k.Function false ∷ [])

-- where a function stands that begins so
pub data RoleAt (lim : Limits) (side : Side) : Role → List Frame → List Lexeme → List Lexeme → Type 0 where
  role_expression : {s : List Frame} {x p : List Lexeme} → Place lim side s x p → RoleAt lim side expression s x p
  role_declaration : {s : List Frame} {x p : List Lexeme} → Opens lim side s p → InList s → fits lim (here s) ≡ true → RoleAt lim side declaration s x p

-- what is wanted follows from the tokens read
pub data Viable (lim : Limits) (side : Side) : Mode → List Frame → List Lexeme → Type 0 where
  v_start : {s : List Frame} {p : List Lexeme} → Opens lim side s p → InList s → Viable lim side start s p
  v_body_start : {s : List Frame} {p : List Lexeme} → Opens lim side s p → Viable lim side body_start s p
  v_have_stmt : {s : List Frame} {p x : List Lexeme} {st : Stmt} {n r : ℕ} → Opens lim side s p → SpellsStmt side lim.most n st x → AsBody s st → ends_open st ≡ false → Deep lim n s r → Viable lim side (have_stmt st r) s (p ++ x)
  v_need : {s : List Frame} {p : List Lexeme} → Opens lim side s p → ((w : Lexeme) → May s w) → Viable lim side need s p
  v_have : {e : Expr} {r : ℕ} {s : List Frame} {p : List Lexeme} → Held lim side 11 e r s p → Viable lim side (have e r) s p
  v_have_member : {s : List Frame} {p x y : List Lexeme} {e : Expr} {key : Key} {n r : ℕ} → Place lim side s x p → Sp lim side 11 n e x → SpellsKey side lim.most n key y → Deep lim (suc n) s r → Viable lim side (have_member e key r) s (p ++ (x ++ y))
  v_have_name : {s : List Frame} {p : List Lexeme} {x : List ℕ} (b : Bool) → Place lim side s (lexeme (t.Name x) b ∷ []) p → IsBinding side x → Viable lim side (have_name x) s (p ++ lexeme (t.Name x) b ∷ [])
  v_have_bump : {e : Expr} {s : List Frame} {p : List Lexeme} → Held lim side 10 e (here s) s p → Viable lim side (have_bump e) s p
  v_whole : {e : Expr} {r : ℕ} {s : List Frame} {p : List Lexeme} → level_in s ≤ 1 → Held lim side 1 e r s p → Viable lim side (whole e r) s p
  v_opened : {s : List Frame} {p : List Lexeme} (b : Bool) → Place lim side s (sign g.OpenParen b ∷ []) p → Viable lim side opened s (p ++ sign g.OpenParen b ∷ [])
  v_first_name : {s : List Frame} {p : List Lexeme} {x : List ℕ} (b c : Bool) → Place lim side s (sign g.OpenParen b ∷ []) p → IsBinding side x → Viable lim side (first_name x) s (p ++ sign g.OpenParen b ∷ lexeme (t.Name x) c ∷ [])
  v_closed_name : {s : List Frame} {p : List Lexeme} {x : List ℕ} (b c f : Bool) → Place lim side s (sign g.OpenParen b ∷ []) p → IsBinding side x → Viable lim side (closed_name x) s (p ++ sign g.OpenParen b ∷ lexeme (t.Name x) c ∷ sign g.CloseParen f ∷ [])
  v_bump_name : {s : List Frame} {p : List Lexeme} (up b : Bool) → Place lim side s (sign (bump_sign up) b ∷ []) p → Viable lim side (bump_name up) s (p ++ sign (bump_sign up) b ∷ [])
  v_yield_next : {s : List Frame} {p : List Lexeme} (b : Bool) → side ≡ Source → Place lim side s (keyword k.Yield b ∷ []) p → level_in s ≤ 1 → Viable lim side yield_next s (p ++ keyword k.Yield b ∷ [])
  v_async_next : {s : List Frame} {p : List Lexeme} (b : Bool) → side ≡ Source → Opens lim side s p → fits lim (here s) ≡ true → has_room lim s ≡ true → May s (keyword k.Async b) → Viable lim side async_next s (p ++ keyword k.Async b ∷ [])
  v_async_start : {s : List Frame} {p : List Lexeme} (b : Bool) → side ≡ Source → Opens lim side s p → InList s → fits lim (here s) ≡ true → Viable lim side async_start s (p ++ keyword k.Async b ∷ [])
  v_function_next : {s : List Frame} {p : List Lexeme} {role : Role} (b : Bool) → RoleAt lim side role s (keyword k.Function b ∷ []) p → Viable lim side (function_next role) s (p ++ keyword k.Function b ∷ [])
  v_name_next : {s : List Frame} {p x : List Lexeme} {role : Role} {kind : FunctionKind} → RoleAt lim side role s x p → Heading side kind x → Viable lim side (name_next role kind) s (p ++ x)
  v_params_open : {s : List Frame} {q : List Lexeme} {h : Head} → ((b : Bool) → Headed lim side h b s q) → Viable lim side (params_open h) s q
  v_param_next : {s : List Frame} {q y : List Lexeme} {h : Head} {xs : List (List ℕ)} (b : Bool) → Headed lim side h b s q → BegunNames side lim.most xs y → Viable lim side (param_next h xs) s (q ++ sign g.OpenParen b ∷ y)
  v_param_behind : {s : List Frame} {q y : List Lexeme} {h : Head} {xs : List (List ℕ)} (b : Bool) → Headed lim side h b s q → SpellsNames side xs y → Allows lim.most (length xs) → Viable lim side (param_behind h xs) s (q ++ sign g.OpenParen b ∷ y)
  v_arrow_sign : {s : List Frame} {p x : List Lexeme} {kind : FunctionKind} {xs : List (List ℕ)} → Place lim side s x p → level_in s ≤ 1 → SpellsArrow side lim.most kind xs x → Viable lim side (arrow_sign kind xs) s (p ++ x)
  v_arrow_body : {s : List Frame} {p x : List Lexeme} {kind : FunctionKind} {xs : List (List ℕ)} → Place lim side s x p → level_in s ≤ 1 → SpellsArrow side lim.most kind xs x → Viable lim side (arrow_body kind xs) s (p ++ (x ++ sign g.Arrow false ∷ []))
  v_body_open : {s : List Frame} {q y : List Lexeme} {role : Role} {kind : FunctionKind} {name : Option (List ℕ)} {xs : List (List ℕ)} {b : Bool} → Headed lim side (function_head role kind name) b s q → SpellsParams side lim.most xs y → Viable lim side (body_open (function_head role kind name) xs) s (q ++ y)
  v_key_next : {s : List Frame} {q : List Lexeme} {ps : Properties} {r : ℕ} → InObject lim side ps r s q → Viable lim side (key_next ps r) s q
  v_key_behind : {s : List Frame} {q x : List Lexeme} {ps : Properties} {key : PropKey} {n r : ℕ} → fits lim (suc (here s)) ≡ true → InObject lim side ps r s q → SpellsPropKey side lim.most n key x → Deep lim (suc n) s r → Viable lim side (key_behind ps key r) s (q ++ x)
  v_key_name : {s : List Frame} {q : List Lexeme} {ps : Properties} {x : List ℕ} {r : ℕ} (b : Bool) → fits lim (suc (here s)) ≡ true → InObject lim side ps r s q → IsName x → Viable lim side (key_name ps x r) s (q ++ lexeme (t.Name x) b ∷ [])
  v_key_async : {s : List Frame} {q : List Lexeme} {ps : Properties} {r : ℕ} (b : Bool) → side ≡ Source → fits lim (suc (here s)) ≡ true → InObject lim side ps r s q → Viable lim side (key_async ps r) s (q ++ keyword k.Async b ∷ [])
  v_key_end : {s : List Frame} {p y : List Lexeme} {ps : Properties} {n r : ℕ} (b : Bool) → Place lim side s (sign g.OpenBrace b ∷ []) p → SpellsSome side lim.most n ps y → Deep lim (suc n) s r → Viable lim side (key_end ps r) s (p ++ sign g.OpenBrace b ∷ y)
  v_method_key : {s : List Frame} {q : List Lexeme} {ps : Properties} {r : ℕ} (b : Bool) → side ≡ Source → fits lim (suc (here s)) ≡ true → InObject lim side ps r s q → Viable lim side (method_key ps Generator r) s (q ++ sign g.Star b ∷ [])
  v_method_open : {s : List Frame} {q w x : List Lexeme} {ps : Properties} {kind : FunctionKind} {key : PropKey} {n r : ℕ} → fits lim (suc (here s)) ≡ true → InObject lim side ps r s q → SpellsMethodHead side kind w → SpellsPropKey side lim.most n key x → KeyFollows kind x → Deep lim (suc n) s r → Viable lim side (method_open ps kind key r) s (q ++ (w ++ x))
  v_member_name : {s : List Frame} {p x : List Lexeme} {e : Expr} {n r : ℕ} (b : Bool) → Place lim side s x p → Sp lim side 11 n e x → Deep lim (suc n) s r → Viable lim side (member_name e r) s (p ++ (x ++ sign g.Dot b ∷ []))
  v_call_open : {s : List Frame} {p x : List Lexeme} {e : Expr} {n r : ℕ} (b c : Bool) → side ≡ Plain → Place lim side s x p → Sp lim side 11 n e x → Deep lim (suc n) s r → Viable lim side (call_open e r) s (p ++ (x ++ sign g.Dot b ∷ lexeme (t.Name (codes "call")) c ∷ []))
  v_words_next : {s : List Frame} {p x : List Lexeme} {ws : List TokenKind} → Place lim side s x p → ws ≡ kinds x → Viable lim side (words_next ws) s (p ++ x)
  v_let_name : {s : List Frame} {q : List Lexeme} {of : ItemsOf} {is : LetItems} {r : ℕ} → InLets lim side of is r s q → Viable lim side (let_name of is r) s q
  v_let_behind : {s : List Frame} {q : List Lexeme} {of : ItemsOf} {is : LetItems} {x : List ℕ} {r : ℕ} (b : Bool) → InLets lim side of is r s q → IsBinding side x → Viable lim side (let_behind of is x r) s (q ++ lexeme (t.Name x) b ∷ [])
  v_const_name : {s : List Frame} {q : List Lexeme} {of : ItemsOf} {is : ConstItems} {r : ℕ} → InConsts lim side of is r s q → Viable lim side (const_name of is r) s q
  v_const_behind : {s : List Frame} {q : List Lexeme} {of : ItemsOf} {is : ConstItems} {x : List ℕ} {r : ℕ} (b : Bool) → InConsts lim side of is r s q → IsBinding side x → Viable lim side (const_behind of is x r) s (q ++ lexeme (t.Name x) b ∷ [])
  v_break_end : {s : List Frame} {p : List Lexeme} (b : Bool) → Opens lim side s p → fits lim (here s) ≡ true → Viable lim side (jump_end Break) s (p ++ keyword k.Break b ∷ [])
  v_continue_end : {s : List Frame} {p : List Lexeme} (b : Bool) → Opens lim side s p → fits lim (here s) ≡ true → Viable lim side (jump_end Continue) s (p ++ keyword k.Continue b ∷ [])
  v_return_next : {s : List Frame} {p : List Lexeme} (b : Bool) → Opens lim side s p → fits lim (here s) ≡ true → Viable lim side return_next s (p ++ keyword k.Return b ∷ [])
  v_throw_next : {s : List Frame} {p : List Lexeme} (b : Bool) → Opens lim side s p → Viable lim side throw_next s (p ++ keyword k.Throw b ∷ [])
  v_if_open : {s : List Frame} {p : List Lexeme} (b : Bool) → Opens lim side s p → Viable lim side if_open s (p ++ keyword k.If b ∷ [])
  v_while_open : {s : List Frame} {p : List Lexeme} (b : Bool) → Opens lim side s p → Viable lim side while_open s (p ++ keyword k.While b ∷ [])
  v_do_while : {s : List Frame} {p x : List Lexeme} {st : Stmt} {n r : ℕ} (b c : Bool) → Opens lim side s p → SpellsBody side lim.most n st x → Deep lim (suc n) s r → Viable lim side (do_while st r) s (p ++ keyword k.Do b ∷ (x ++ keyword k.While c ∷ []))
  v_do_end : {s : List Frame} {p x y : List Lexeme} {st : Stmt} {e : Expr} {n r : ℕ} (b c f h : Bool) → Opens lim side s p → SpellsBody side lim.most n st x → Sp lim side 1 n e y → Deep lim (suc n) s r → Viable lim side (do_end st e r) s (p ++ keyword k.Do b ∷ (x ++ keyword k.While c ∷ sign g.OpenParen f ∷ (y ++ sign g.CloseParen h ∷ [])))
  v_for_open : {s : List Frame} {p : List Lexeme} (b : Bool) → Opens lim side s p → fits lim (here s) ≡ true → Viable lim side for_open s (p ++ keyword k.For b ∷ [])
  v_for_next : {s : List Frame} {p : List Lexeme} (b c : Bool) → Opens lim side s p → fits lim (here s) ≡ true → Viable lim side for_next s (p ++ keyword k.For b ∷ sign g.OpenParen c ∷ [])
  v_for_test : {s : List Frame} {q : List Lexeme} {i : Init} {r : ℕ} → InFor lim side i r s q → Viable lim side (for_test i r) s q
  v_for_update : {s : List Frame} {q : List Lexeme} {i : Init} {test : MaybeExpr} {r : ℕ} → InTest lim side i test r s q → Viable lim side (for_update i test r) s q
  v_try_open : {s : List Frame} {p : List Lexeme} (b : Bool) → Opens lim side s p → fits lim (here s) ≡ true → Viable lim side try_open s (p ++ keyword k.Try b ∷ [])
  v_catch_next : {s : List Frame} {q : List Lexeme} {bs : Stmts} {r : ℕ} → Tried lim side bs r s q → Viable lim side (catch_next bs r) s q
  v_catch_open : {s : List Frame} {q : List Lexeme} {bs : Stmts} {r : ℕ} (b : Bool) → Tried lim side bs r s q → Viable lim side (catch_open bs r) s (q ++ keyword k.Catch b ∷ [])
  v_catch_name : {s : List Frame} {q : List Lexeme} {bs : Stmts} {r : ℕ} (b c : Bool) → Tried lim side bs r s q → Viable lim side (catch_name bs r) s (q ++ keyword k.Catch b ∷ sign g.OpenParen c ∷ [])
  v_catch_close : {s : List Frame} {q : List Lexeme} {bs : Stmts} {x : List ℕ} {r : ℕ} (b c f : Bool) → Tried lim side bs r s q → IsBinding side x → Viable lim side (catch_close bs x r) s (q ++ keyword k.Catch b ∷ sign g.OpenParen c ∷ lexeme (t.Name x) f ∷ [])
  v_catch_block : {s : List Frame} {q : List Lexeme} {bs : Stmts} {x : List ℕ} {r : ℕ} (b c f h : Bool) → Tried lim side bs r s q → IsBinding side x → Viable lim side (catch_block bs x r) s (q ++ keyword k.Catch b ∷ sign g.OpenParen c ∷ lexeme (t.Name x) f ∷ sign g.CloseParen h ∷ [])
  v_finally_next : {s : List Frame} {q x : List Lexeme} {bs : Stmts} {c : Catch} {n r : ℕ} → Tried lim side bs r s q → SpellsCatch side lim.most n c x → Deep lim (suc n) s r → Viable lim side (finally_next bs c r) s (q ++ x)
  v_finally_open : {s : List Frame} {q : List Lexeme} {bs : Stmts} {c : Catch} {r : ℕ} (b : Bool) → Caught lim side bs c r s q → Viable lim side (finally_open bs c r) s (q ++ keyword k.Finally b ∷ [])
  v_switch_open : {s : List Frame} {p : List Lexeme} (b : Bool) → side ≡ Plain → Opens lim side s p → Viable lim side switch_open s (p ++ keyword k.Switch b ∷ [])
  v_switch_brace : {s : List Frame} {p x : List Lexeme} {e : Expr} {n r : ℕ} (b c f : Bool) → side ≡ Plain → Opens lim side s p → Sp lim side 1 n e x → Deep lim (suc n) s r → Viable lim side (switch_brace e r) s (p ++ keyword k.Switch b ∷ sign g.OpenParen c ∷ (x ++ sign g.CloseParen f ∷ []))
  v_clause_next : {s : List Frame} {q : List Lexeme} {e : Expr} {cs : Clauses} {r : ℕ} → InSwitch lim side e cs r s q → Viable lim side (clause_next e cs r) s q
  v_case_number : {s : List Frame} {q : List Lexeme} {e : Expr} {cs : Clauses} {r : ℕ} (b : Bool) → InSwitch lim side e cs r s q → Viable lim side (case_number e cs r) s (q ++ keyword k.Case b ∷ [])
  v_case_colon : {s : List Frame} {q : List Lexeme} {e : Expr} {cs : Clauses} {n r : ℕ} (b c : Bool) → InSwitch lim side e cs r s q → n ≤ greatest_number → Viable lim side (case_colon e cs (Some n) r) s (q ++ keyword k.Case b ∷ lexeme (t.Number n) c ∷ [])
  v_default_colon : {s : List Frame} {q : List Lexeme} {e : Expr} {cs : Clauses} {r : ℕ} (b : Bool) → InSwitch lim side e cs r s q → Viable lim side (case_colon e cs None r) s (q ++ keyword k.Default b ∷ [])

-- MOVES
abbrev pub After : Limits → Side → Move → List Lexeme → Type 0
After lim side refuse p = Unit {0}
After lim side (go m s) p = Viable lim side m s p

-- after a choice by a test
pub chosen : (lim : Limits) (side : Side) (b : Bool) (m : Mode) (s : List Frame) (p : List Lexeme) → (b ≡ true → Viable lim side m s p) → After lim side (go_if b m s) p
chosen lim side true m s p f = f refl
chosen lim side false m s p f = tt

-- PLACES
pub opens_of : {lim : Limits} {side : Side} {s : List Frame} {x p : List Lexeme} → Place lim side s x p → Opens lim side s p
opens_of (place o d room h) = o

pub fits_of : {lim : Limits} {side : Side} {s : List Frame} {x p : List Lexeme} → Place lim side s x p → fits lim (here s) ≡ true
fits_of (place o d room h) = d

pub room_of : {lim : Limits} {side : Side} {s : List Frame} {x p : List Lexeme} → Place lim side s x p → has_room lim s ≡ true
room_of (place o d room h) = room

pub starts_of : {lim : Limits} {side : Side} {s : List Frame} {x p : List Lexeme} → Place lim side s x p → Starts s x
starts_of (place o d room h) = h

starts_on : (s : List Frame) (x y : List Lexeme) → Starts s x → Starts s (x ++ y)
starts_on s x y h z = subst (λ w. Well s w) (sym (append_assoc x y z)) (h (y ++ z))

pub place_on : {lim : Limits} {side : Side} {s : List Frame} {x p : List Lexeme} (y : List Lexeme) → Place lim side s x p → Place lim side s (x ++ y) p
place_on {s = s} {x = x} y (place o d room h) = place o d room (starts_on s x y h)

-- ALONG EQUATIONS OF TOKENS
pub opens_along : {lim : Limits} {side : Side} {s : List Frame} {x y : List Lexeme} → x ≡ y → Opens lim side s x → Opens lim side s y
opens_along {lim} {side} {s} q d = subst (λ z. Opens lim side s z) q d

pub held_along : {lim : Limits} {side : Side} {l : ℕ} {e : Expr} {r : ℕ} {s : List Frame} {x y : List Lexeme} → x ≡ y → Held lim side l e r s x → Held lim side l e r s y
held_along {lim} {side} {l} {e} {r} {s} q d = subst (λ z. Held lim side l e r s z) q d

pub viable_along : {lim : Limits} {side : Side} {m : Mode} {s : List Frame} {x y : List Lexeme} → x ≡ y → Viable lim side m s x → Viable lim side m s y
viable_along {lim} {side} {m} {s} q d = subst (λ z. Viable lim side m s z) q d

pub after_along : (lim : Limits) (side : Side) (m : Move) {x y : List Lexeme} → x ≡ y → After lim side m x → After lim side m y
after_along lim side m q d = subst (λ z. After lim side m z) q d
