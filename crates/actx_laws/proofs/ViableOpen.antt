-- What was read of a program, and what it left open.
use Rattle.std.proofs.Common.{◌≡◌, ℕ, suc, ◌+◌, ◌≤◌, List, [], ◌∷◌, ◌++◌, Bool, true, false, Option, Some, None}
use Rattle.std.specs.Prelude.{codes}
use Rattle.actx_grammar.specs.declared.operators.BinaryOp.{BinaryOp}
use Rattle.actx_grammar.specs.declared.operators.Form.{Form}
use Rattle.actx_grammar.specs.declared.operators.Form.TheVariants.{CallWith}
use Rattle.actx_grammar.specs.declared.operators.FunctionKind.{FunctionKind}
use Rattle.actx_grammar.specs.declared.operators.FunctionKind.TheVariants.{Arrow, AsyncArrow}
use Rattle.actx_grammar.specs.declared.operators.LogicOp.{LogicOp}
use Rattle.actx_grammar.specs.declared.operators.LogicOp.TheVariants.{And, Or, Coalesce}
use Rattle.actx_grammar.specs.declared.operators.UnaryOp.{UnaryOp}
use Rattle.actx_grammar.specs.declared.side.Side.{Side}
use Rattle.actx_grammar.specs.declared.side.Side.TheVariants.{Source, Plain}
use Rattle.actx_grammar.specs.declared.token.Keyword.{Keyword}
use Rattle.actx_grammar.specs.declared.token.Keyword.TheVariants as k
use Rattle.actx_grammar.specs.declared.token.Sign.{Sign}
use Rattle.actx_grammar.specs.declared.token.Sign.TheVariants as g
use Rattle.actx_grammar.specs.declared.token.TokenKind.TheVariants as t
use Rattle.actx_grammar.specs.Forms.{unary_word, level_of, sign_of, change_of, form_words, HasWords}
use Rattle.actx_grammar.specs.Grammar.{count, Allows, ends_open, SpellsParams, SpellsHead, SpellsMethodHead, KeyFollows, SpellsArrow, Spells, SpellsKey, SpellsPropKey, SpellsMaybe, SpellsInit, SpellsBlock, SpellsBody, SpellsCatch, SpellsStmts}
use Rattle.actx_grammar.specs.Lexemes.{Lexeme, sign, keyword, lexeme, kinds}
use Rattle.actx_grammar.specs.Names.{IsBinding}
use Rattle.actx_grammar.specs.ParserOperands.{has_room}
use Rattle.actx_grammar.specs.ParserState.{Limits, fits, Role, expression, declaration, method, Head, arrow_head, function_head, ItemsOf, of_statement, of_for, ListOwner, program, body, block, tried, caught, finally, clause_of, Frame, in_unary, in_await, in_binary, in_logic, in_choice, in_other, in_paren, in_call, in_form, in_set_name, in_set, in_change, in_index, in_computed, in_property, in_arrow, in_yield, in_yield_all, in_value, in_let, in_const, in_return, in_throw, in_if, in_while, in_do_test, in_for_init, in_for_test, in_for_update, in_for_over, in_switch, yes_of, no_of, while_of, do_of, for_body, for_of_body, in_list, here, logic_level}
use Rattle.actx_grammar.specs.Tree.{Expr, Exprs, also, Key, Properties, PropKey, LetItems, ConstItems, Init, MaybeExpr, Stmt, Stmts, Catch, no_catch, Clauses}
use Rattle.actx_grammar.specs.Words.{greatest_number}
use Rattle.actx_laws.proofs.ParseLevels.{level_in}
use Rattle.actx_laws.proofs.ParseReads.{owner_levels}
use Rattle.actx_laws.proofs.ViableParts.{Deep, Starts, InList, Begun, BegunProperties, BegunLets, BegunConsts, Cases, Left, Opening}

abbrev pub Sp : Limits → Side → ℕ → ℕ → Expr → List Lexeme → Type 0
Sp lim side l n e x = Spells side lim.most l n e x

abbrev pub item_word : Bool → Keyword
item_word true = k.Const
item_word false = k.Let

abbrev pub logic_sign : LogicOp → Sign
logic_sign And = g.And
logic_sign Or = g.Or
logic_sign Coalesce = g.Coalesce

-- how deep what was read of an object reaches
abbrev pub role_reach : Role → ℕ
role_reach (method ps key r) = r
role_reach _ = 0

mutual
  -- the tokens read before what is wanted, and the frames that they left
  pub data Opens (lim : Limits) (side : Side) : List Frame → List Lexeme → Type 0 where
    op_unary : {s : List Frame} {p : List Lexeme} (op : UnaryOp) (b : Bool) → Place lim side s (lexeme (unary_word op) b ∷ []) p → Opens lim side (in_unary op ∷ s) (p ++ lexeme (unary_word op) b ∷ [])
    op_await : {s : List Frame} {p : List Lexeme} (b : Bool) → side ≡ Source → Place lim side s (keyword k.Await b ∷ []) p → Opens lim side (in_await ∷ s) (p ++ keyword k.Await b ∷ [])
    op_binary : {s : List Frame} {p x : List Lexeme} {op : BinaryOp} {a : Expr} {n r : ℕ} (b : Bool) → Place lim side s x p → level_in s ≤ level_of op → Sp lim side (level_of op) n a x → Deep lim (suc n) s r → Opens lim side (in_binary op a r ∷ s) (p ++ (x ++ sign (sign_of op) b ∷ []))
    op_logic : {s : List Frame} {p x : List Lexeme} {op : LogicOp} {a : Expr} {n r : ℕ} (b : Bool) → Place lim side s x p → level_in s ≤ logic_level op → Left side lim.most op n a x → Deep lim (suc n) s r → Opens lim side (in_logic op a r ∷ s) (p ++ (x ++ sign (logic_sign op) b ∷ []))
    op_choice : {s : List Frame} {p x : List Lexeme} {e : Expr} {n r : ℕ} (b : Bool) → Place lim side s x p → level_in s ≤ 2 → Sp lim side 3 n e x → Deep lim (suc n) s r → Opens lim side (in_choice e r ∷ s) (p ++ (x ++ sign g.Question b ∷ []))
    op_other : {s : List Frame} {p x y : List Lexeme} {e f : Expr} {n r : ℕ} (b c : Bool) → Place lim side s x p → level_in s ≤ 2 → Sp lim side 3 n e x → Sp lim side 1 n f y → Deep lim (suc n) s r → Opens lim side (in_other e f r ∷ s) (p ++ (x ++ sign g.Question b ∷ (y ++ sign g.Colon c ∷ [])))
    op_paren : {s : List Frame} {p : List Lexeme} (b : Bool) → Place lim side s (sign g.OpenParen b ∷ []) p → Opens lim side (in_paren ∷ s) (p ++ sign g.OpenParen b ∷ [])
    op_call : {s : List Frame} {p x y : List Lexeme} {f : Expr} {es : Exprs} {n r : ℕ} (b : Bool) → Place lim side s x p → Sp lim side 11 n f x → Begun side lim.most n es y → Allows lim.most (count es) → Deep lim (suc n) s r → Opens lim side (in_call f es r ∷ s) (p ++ (x ++ sign g.OpenParen b ∷ y))
    op_form : {s : List Frame} {p x y : List Lexeme} {form : Form} {es : Exprs} {n r : ℕ} (b : Bool) → HasWords side form → form_words form ≡ kinds x → Place lim side s x p → Begun side lim.most n es y → Allows lim.most (count es) → Deep lim (suc n) s r → Opens lim side (in_form form es r ∷ s) (p ++ (x ++ sign g.OpenParen b ∷ y))
    op_call_with : {s : List Frame} {p x y : List Lexeme} {f : Expr} {es : Exprs} {n r : ℕ} (b c h : Bool) → side ≡ Plain → Place lim side s x p → Sp lim side 11 n f x → Begun side lim.most n es y → Allows lim.most (count es) → Deep lim (suc n) s r → Opens lim side (in_form CallWith (also f es) r ∷ s) (p ++ (x ++ sign g.Dot b ∷ lexeme (t.Name (codes "call")) c ∷ sign g.OpenParen h ∷ y))
    op_set_name : {s : List Frame} {p : List Lexeme} {x : List ℕ} (b c : Bool) → Place lim side s (lexeme (t.Name x) b ∷ []) p → level_in s ≤ 1 → IsBinding side x → Opens lim side (in_set_name x ∷ s) (p ++ lexeme (t.Name x) b ∷ sign g.Assign c ∷ [])
    op_set : {s : List Frame} {p x y : List Lexeme} {a : Expr} {key : Key} {n r : ℕ} (b : Bool) → Place lim side s x p → level_in s ≤ 1 → Sp lim side 11 n a x → SpellsKey side lim.most n key y → Deep lim (suc n) s r → Opens lim side (in_set a key r ∷ s) (p ++ (x ++ y ++ sign g.Assign b ∷ []))
    op_change : {s : List Frame} {p : List Lexeme} {x : List ℕ} {op : BinaryOp} {sg : Sign} (b c : Bool) → Place lim side s (lexeme (t.Name x) b ∷ []) p → level_in s ≤ 1 → IsBinding side x → change_of op ≡ Some sg → Opens lim side (in_change x op ∷ s) (p ++ lexeme (t.Name x) b ∷ sign sg c ∷ [])
    op_index : {s : List Frame} {p x : List Lexeme} {e : Expr} {n r : ℕ} (b : Bool) → Place lim side s x p → Sp lim side 11 n e x → Deep lim (suc n) s r → Opens lim side (in_index e r ∷ s) (p ++ (x ++ sign g.OpenBracket b ∷ []))
    op_computed : {s : List Frame} {q w : List Lexeme} {ps : Properties} {kind : Option FunctionKind} {r : ℕ} (c : Bool) → InObject lim side ps r s q → Opening side kind c w → Opens lim side (in_computed ps kind r ∷ s) (q ++ (w ++ sign g.OpenBracket c ∷ []))
    op_property : {s : List Frame} {q x : List Lexeme} {ps : Properties} {key : PropKey} {n r : ℕ} (c : Bool) → InObject lim side ps r s q → SpellsPropKey side lim.most n key x → Deep lim (suc n) s r → Opens lim side (in_property ps key r ∷ s) (q ++ (x ++ sign g.Colon c ∷ []))
    op_arrow : {s : List Frame} {p x : List Lexeme} {kind : FunctionKind} {xs : List (List ℕ)} → Place lim side s x p → level_in s ≤ 1 → SpellsArrow side lim.most kind xs x → Opens lim side (in_arrow kind xs ∷ s) (p ++ (x ++ sign g.Arrow false ∷ []))
    op_yield : {s : List Frame} {p : List Lexeme} (b : Bool) → side ≡ Source → Place lim side s (keyword k.Yield b ∷ []) p → level_in s ≤ 1 → Opens lim side (in_yield ∷ s) (p ++ keyword k.Yield b ∷ [])
    op_yield_all : {s : List Frame} {p : List Lexeme} (b : Bool) → side ≡ Source → Place lim side s (keyword k.Yield b ∷ []) p → level_in s ≤ 1 → Opens lim side (in_yield_all ∷ s) (p ++ keyword k.Yield b ∷ sign g.Star false ∷ [])
    op_value : {s : List Frame} {p : List Lexeme} → Opens lim side s p → Opens lim side (in_value ∷ s) p
    op_let : {s : List Frame} {q : List Lexeme} {of : ItemsOf} {is : LetItems} {x : List ℕ} {r : ℕ} (b c : Bool) → InLets lim side of is r s q → IsBinding side x → Opens lim side (in_let of is x r ∷ s) (q ++ lexeme (t.Name x) b ∷ sign g.Assign c ∷ [])
    op_const : {s : List Frame} {q : List Lexeme} {of : ItemsOf} {is : ConstItems} {x : List ℕ} {r : ℕ} (b c : Bool) → InConsts lim side of is r s q → IsBinding side x → Opens lim side (in_const of is x r ∷ s) (q ++ lexeme (t.Name x) b ∷ sign g.Assign c ∷ [])
    op_return : {s : List Frame} {p : List Lexeme} (b : Bool) → Opens lim side s p → Opens lim side (in_return ∷ s) (p ++ keyword k.Return b ∷ [])
    op_throw : {s : List Frame} {p : List Lexeme} (b : Bool) → Opens lim side s p → Opens lim side (in_throw ∷ s) (p ++ keyword k.Throw b ∷ [])
    op_if : {s : List Frame} {p : List Lexeme} (b c : Bool) → Opens lim side s p → Opens lim side (in_if ∷ s) (p ++ keyword k.If b ∷ sign g.OpenParen c ∷ [])
    op_while : {s : List Frame} {p : List Lexeme} (b c : Bool) → Opens lim side s p → Opens lim side (in_while ∷ s) (p ++ keyword k.While b ∷ sign g.OpenParen c ∷ [])
    op_do_test : {s : List Frame} {p x : List Lexeme} {st : Stmt} {n r : ℕ} (b c f : Bool) → Opens lim side s p → SpellsBody side lim.most n st x → Deep lim (suc n) s r → Opens lim side (in_do_test st r ∷ s) (p ++ keyword k.Do b ∷ (x ++ keyword k.While c ∷ sign g.OpenParen f ∷ []))
    op_for_init : {s : List Frame} {p : List Lexeme} (b c : Bool) → Opens lim side s p → Opens lim side (in_for_init ∷ s) (p ++ keyword k.For b ∷ sign g.OpenParen c ∷ [])
    op_for_test : {s : List Frame} {q : List Lexeme} {i : Init} {r : ℕ} → InFor lim side i r s q → Opens lim side (in_for_test i r ∷ s) q
    op_for_update : {s : List Frame} {q : List Lexeme} {i : Init} {test : MaybeExpr} {r : ℕ} → InTest lim side i test r s q → Opens lim side (in_for_update i test r ∷ s) q
    op_for_over : {s : List Frame} {p : List Lexeme} {constant : Bool} {x : List ℕ} (b c f h j : Bool) → side ≡ Source → IsBinding side x → Opens lim side s p → Opens lim side (in_for_over constant x ∷ s) (p ++ keyword k.For b ∷ sign g.OpenParen c ∷ keyword (item_word constant) f ∷ lexeme (t.Name x) h ∷ lexeme (t.Name (codes "of")) j ∷ [])
    op_switch : {s : List Frame} {p : List Lexeme} (b c : Bool) → side ≡ Plain → Opens lim side s p → Opens lim side (in_switch ∷ s) (p ++ keyword k.Switch b ∷ sign g.OpenParen c ∷ [])
    op_yes : {s : List Frame} {p x : List Lexeme} {e : Expr} {n r : ℕ} (b c f : Bool) → Opens lim side s p → Sp lim side 1 n e x → Deep lim (suc n) s r → Opens lim side (yes_of e r ∷ s) (p ++ keyword k.If b ∷ sign g.OpenParen c ∷ (x ++ sign g.CloseParen f ∷ []))
    op_no : {s : List Frame} {p x y : List Lexeme} {e : Expr} {st : Stmt} {n r : ℕ} (b c f h : Bool) → Opens lim side s p → Sp lim side 1 n e x → SpellsBody side lim.most n st y → ends_open st ≡ false → Deep lim (suc n) s r → Opens lim side (no_of e st r ∷ s) (p ++ keyword k.If b ∷ sign g.OpenParen c ∷ (x ++ sign g.CloseParen f ∷ (y ++ keyword k.Else h ∷ [])))
    op_while_of : {s : List Frame} {p x : List Lexeme} {e : Expr} {n r : ℕ} (b c f : Bool) → Opens lim side s p → Sp lim side 1 n e x → Deep lim (suc n) s r → Opens lim side (while_of e r ∷ s) (p ++ keyword k.While b ∷ sign g.OpenParen c ∷ (x ++ sign g.CloseParen f ∷ []))
    op_do : {s : List Frame} {p : List Lexeme} (b : Bool) → Opens lim side s p → Opens lim side (do_of ∷ s) (p ++ keyword k.Do b ∷ [])
    op_for : {s : List Frame} {q y : List Lexeme} {i : Init} {test update : MaybeExpr} {n r : ℕ} (f : Bool) → InTest lim side i test r s q → SpellsMaybe side lim.most n update y → Deep lim (suc n) s r → Opens lim side (for_body i test update r ∷ s) (q ++ (y ++ sign g.CloseParen f ∷ []))
    op_for_of : {s : List Frame} {p y : List Lexeme} {constant : Bool} {x : List ℕ} {over : Expr} {n r : ℕ} (b c f h j i : Bool) → side ≡ Source → IsBinding side x → Opens lim side s p → Sp lim side 1 n over y → Deep lim (suc n) s r → Opens lim side (for_of_body constant x over r ∷ s) (p ++ keyword k.For b ∷ sign g.OpenParen c ∷ keyword (item_word constant) f ∷ lexeme (t.Name x) h ∷ lexeme (t.Name (codes "of")) j ∷ (y ++ sign g.CloseParen i ∷ []))
    op_list : {s : List Frame} {p y : List Lexeme} {owner : ListOwner} {ss : Stmts} {c n r : ℕ} → Owned lim side owner c s p → c ≤ r → SpellsStmts side lim.most n ss y → Deep lim (n + owner_levels owner) s r → Opens lim side (in_list owner ss r ∷ s) (p ++ y)

  -- the tokens read before a list of statements, which reach so deep
  pub data Owned (lim : Limits) (side : Side) : ListOwner → ℕ → List Frame → List Lexeme → Type 0 where
    own_program : {c : ℕ} → Owned lim side program c [] []
    own_arrow : {s : List Frame} {p x : List Lexeme} {kind : FunctionKind} {xs : List (List ℕ)} {c : ℕ} (b : Bool) → Place lim side s x p → level_in s ≤ 1 → SpellsArrow side lim.most kind xs x → Owned lim side (body (arrow_head kind) xs) c s (p ++ (x ++ sign g.Arrow false ∷ sign g.OpenBrace b ∷ []))
    own_function : {s : List Frame} {q x : List Lexeme} {role : Role} {kind : FunctionKind} {name : Option (List ℕ)} {xs : List (List ℕ)} {c : ℕ} {f : Bool} (b : Bool) → role_reach role ≤ c → Headed lim side (function_head role kind name) f s q → SpellsParams side lim.most xs x → Owned lim side (body (function_head role kind name) xs) c s (q ++ (x ++ sign g.OpenBrace b ∷ []))
    own_block : {s : List Frame} {p : List Lexeme} {c : ℕ} (b : Bool) → Opens lim side s p → Owned lim side block c s (p ++ sign g.OpenBrace b ∷ [])
    own_tried : {s : List Frame} {p : List Lexeme} {c : ℕ} (b f : Bool) → Opens lim side s p → Owned lim side tried c s (p ++ keyword k.Try b ∷ sign g.OpenBrace f ∷ [])
    own_caught : {s : List Frame} {q : List Lexeme} {bs : Stmts} {c : ℕ} (b f : Bool) → Tried lim side bs c s q → Owned lim side (caught bs None) c s (q ++ keyword k.Catch b ∷ sign g.OpenBrace f ∷ [])
    own_caught_name : {s : List Frame} {q : List Lexeme} {bs : Stmts} {x : List ℕ} {c : ℕ} (b f h i j : Bool) → Tried lim side bs c s q → IsBinding side x → Owned lim side (caught bs (Some x)) c s (q ++ keyword k.Catch b ∷ sign g.OpenParen f ∷ lexeme (t.Name x) h ∷ sign g.CloseParen i ∷ sign g.OpenBrace j ∷ [])
    own_finally : {s : List Frame} {q : List Lexeme} {bs : Stmts} {ct : Catch} {c : ℕ} (b f : Bool) → Caught lim side bs ct c s q → Owned lim side (finally bs ct) c s (q ++ keyword k.Finally b ∷ sign g.OpenBrace f ∷ [])
    own_clause : {s : List Frame} {q : List Lexeme} {e : Expr} {cs : Clauses} {n : ℕ} {c : ℕ} (b f h : Bool) → InSwitch lim side e cs c s q → n ≤ greatest_number → Owned lim side (clause_of e cs (Some n)) c s (q ++ keyword k.Case b ∷ lexeme (t.Number n) f ∷ sign g.Colon h ∷ [])
    own_default : {s : List Frame} {q : List Lexeme} {e : Expr} {cs : Clauses} {c : ℕ} (b f : Bool) → InSwitch lim side e cs c s q → Owned lim side (clause_of e cs None) c s (q ++ keyword k.Default b ∷ sign g.Colon f ∷ [])

  -- an operand began with these tokens
  pub data Place (lim : Limits) (side : Side) : List Frame → List Lexeme → List Lexeme → Type 0 where
    place : {s : List Frame} {x p : List Lexeme} → Opens lim side s p → fits lim (here s) ≡ true → has_room lim s ≡ true → Starts s x → Place lim side s x p

  -- a literal with some properties, whose next one may begin
  pub data InObject (lim : Limits) (side : Side) : Properties → ℕ → List Frame → List Lexeme → Type 0 where
    in_object : {s : List Frame} {p y : List Lexeme} {ps : Properties} {n r : ℕ} (b : Bool) → Place lim side s (sign g.OpenBrace b ∷ []) p → BegunProperties side lim.most n ps y → Deep lim (suc n) s r → InObject lim side ps r s (p ++ sign g.OpenBrace b ∷ y)

  -- items, whose next one may begin
  pub data Items (lim : Limits) (side : Side) : Keyword → ItemsOf → List Frame → List Lexeme → Type 0 where
    items_of_statement : {key : Keyword} {s : List Frame} {p : List Lexeme} (b : Bool) → Opens lim side s p → InList s → Items lim side key of_statement s (p ++ keyword key b ∷ [])
    items_of_for : {key : Keyword} {s : List Frame} {p : List Lexeme} (b c f : Bool) → Opens lim side s p → Items lim side key of_for s (p ++ keyword k.For b ∷ sign g.OpenParen c ∷ keyword key f ∷ [])

  pub data InLets (lim : Limits) (side : Side) : ItemsOf → LetItems → ℕ → List Frame → List Lexeme → Type 0 where
    in_lets : {s : List Frame} {q y : List Lexeme} {of : ItemsOf} {is : LetItems} {n r : ℕ} → Items lim side k.Let of s q → BegunLets side lim.most n is y → Deep lim (suc n) s r → InLets lim side of is r s (q ++ y)

  pub data InConsts (lim : Limits) (side : Side) : ItemsOf → ConstItems → ℕ → List Frame → List Lexeme → Type 0 where
    in_consts : {s : List Frame} {q y : List Lexeme} {of : ItemsOf} {is : ConstItems} {n r : ℕ} → Items lim side k.Const of s q → BegunConsts side lim.most n is y → Deep lim (suc n) s r → InConsts lim side of is r s (q ++ y)

  -- a for up to its test, and up to its update
  pub data InFor (lim : Limits) (side : Side) : Init → ℕ → List Frame → List Lexeme → Type 0 where
    in_for : {s : List Frame} {p w : List Lexeme} {i : Init} {n r : ℕ} (b c f : Bool) → Opens lim side s p → SpellsInit side lim.most n i w → Deep lim (suc n) s r → InFor lim side i r s (p ++ keyword k.For b ∷ sign g.OpenParen c ∷ (w ++ sign g.Semicolon f ∷ []))

  pub data InTest (lim : Limits) (side : Side) : Init → MaybeExpr → ℕ → List Frame → List Lexeme → Type 0 where
    in_test : {s : List Frame} {q x : List Lexeme} {i : Init} {test : MaybeExpr} {n r : ℕ} (f : Bool) → InFor lim side i r s q → SpellsMaybe side lim.most n test x → Deep lim (suc n) s r → InTest lim side i test r s (q ++ (x ++ sign g.Semicolon f ∷ []))

  -- a try with its block, and with its catch part or none
  pub data Tried (lim : Limits) (side : Side) : Stmts → ℕ → List Frame → List Lexeme → Type 0 where
    tried_block : {s : List Frame} {p x : List Lexeme} {bs : Stmts} {n r : ℕ} (b : Bool) → Opens lim side s p → SpellsBlock side lim.most n bs x → Deep lim (suc n) s r → Tried lim side bs r s (p ++ keyword k.Try b ∷ x)

  pub data Caught (lim : Limits) (side : Side) : Stmts → Catch → ℕ → List Frame → List Lexeme → Type 0 where
    caught_none : {s : List Frame} {q : List Lexeme} {bs : Stmts} {r : ℕ} → Tried lim side bs r s q → Caught lim side bs no_catch r s q
    caught_some : {s : List Frame} {q x : List Lexeme} {bs : Stmts} {c : Catch} {n r : ℕ} → Tried lim side bs r s q → SpellsCatch side lim.most n c x → Deep lim (suc n) s r → Caught lim side bs c r s (q ++ x)

  -- a switch with some numbered clauses
  pub data InSwitch (lim : Limits) (side : Side) : Expr → Clauses → ℕ → List Frame → List Lexeme → Type 0 where
    in_clauses : {s : List Frame} {p x y : List Lexeme} {e : Expr} {cs : Clauses} {n r : ℕ} (b c f h : Bool) → side ≡ Plain → Opens lim side s p → Sp lim side 1 n e x → Cases side lim.most n cs y → Deep lim (suc n) s r → InSwitch lim side e cs r s (p ++ keyword k.Switch b ∷ sign g.OpenParen c ∷ (x ++ sign g.CloseParen f ∷ sign g.OpenBrace h ∷ y))

  -- the tokens before parameters, whose parenthesis stands behind a line end or not
  pub data Headed (lim : Limits) (side : Side) : Head → Bool → List Frame → List Lexeme → Type 0 where
    head_arrow : {s : List Frame} {p : List Lexeme} {b : Bool} → Place lim side s (sign g.OpenParen b ∷ []) p → level_in s ≤ 1 → Headed lim side (arrow_head Arrow) b s p
    head_async_arrow : {s : List Frame} {p : List Lexeme} (b : Bool) → side ≡ Source → Place lim side s (keyword k.Async b ∷ sign g.OpenParen false ∷ []) p → level_in s ≤ 1 → Headed lim side (arrow_head AsyncArrow) false s (p ++ keyword k.Async b ∷ [])
    head_expression : {s : List Frame} {p x : List Lexeme} {kind : FunctionKind} {name : Option (List ℕ)} {b : Bool} → Place lim side s x p → SpellsHead side kind name x → Headed lim side (function_head expression kind name) b s (p ++ x)
    head_declaration : {s : List Frame} {p x : List Lexeme} {kind : FunctionKind} {name : List ℕ} {b : Bool} → Opens lim side s p → InList s → fits lim (here s) ≡ true → SpellsHead side kind (Some name) x → Headed lim side (function_head declaration kind (Some name)) b s (p ++ x)
    head_method : {s : List Frame} {q w x : List Lexeme} {kind : FunctionKind} {ps : Properties} {key : PropKey} {n r : ℕ} {b : Bool} → fits lim (suc (here s)) ≡ true → InObject lim side ps r s q → SpellsMethodHead side kind w → SpellsPropKey side lim.most n key x → KeyFollows kind x → Deep lim (suc n) s r → Headed lim side (function_head (method ps key r) kind None) b s (q ++ (w ++ x))
