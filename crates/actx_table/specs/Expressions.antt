-- The rows of expressions (ECMA-262, 13).
use Rattle.std.specs.Prelude.{ℕ, pos, Bool, true, false, ◌&&◌, nat_le, List, [], ◌∷◌, ◌++◌, length, Option, Some, None, if◌then◌else◌}
use Rattle.actx_data.specs.Number.{greatest, sum_of, difference_of}
use Rattle.actx_data.specs.declared.end.End.TheVariants.{Left}
use Rattle.actx_data.specs.declared.shown.ErrorName.TheVariants.{ReferenceError, TypeError}
use Rattle.actx_data.specs.declared.value.Value.{Value}
use Rattle.actx_data.specs.declared.value.Value.TheVariants as v
use Rattle.actx_grammar.specs.declared.side.Side.{Side}
use Rattle.actx_grammar.specs.declared.side.Side.TheVariants as side
use Rattle.actx_grammar.specs.declared.operators.BinaryOp.{BinaryOp}
use Rattle.actx_grammar.specs.declared.operators.Form.{Form}
use Rattle.actx_grammar.specs.declared.operators.LogicOp.{LogicOp}
use Rattle.actx_grammar.specs.declared.operators.FunctionKind.{FunctionKind}
use Rattle.actx_grammar.specs.declared.operators.FunctionKind.TheVariants.{Normal as normal_kind, Arrow as arrow_kind, AsyncGenerator as async_generator_kind}
use Rattle.actx_grammar.specs.Grammar.{count}
use Rattle.actx_grammar.specs.ParserOperands.{suits}
use Rattle.actx_grammar.specs.Tree as t
use Rattle.actx_grammar.specs.Tree.{Expr, Exprs, Key, PropKey, Properties, Stmts}
use Rattle.actx_heap.specs.Things.{Prop, Plain, Function}
use Rattle.actx_heap.specs.Properties.{with_prop, key_text, is_proto, get, put}
use Rattle.actx_heap.specs.declared.answers.Got.{Got}
use Rattle.actx_heap.specs.declared.answers.Got.TheVariants as g
use Rattle.actx_heap.specs.declared.answers.Put.{Put}
use Rattle.actx_heap.specs.declared.answers.Put.TheVariants as p
use Rattle.actx_heap.specs.Things.{Thing}
use Rattle.actx_table.specs.Operators.{number_or_leaves, binary, unary, is_true, is_settled}
use Rattle.actx_table.specs.Scopes.{Found, find, with_value_at, fixed_cell, with_call}
use Rattle.actx_table.specs.State.{Code, Closure, Native, Eval, ExecBody, Op, Prefix, Infix, BuiltIn, SetVar, Read, Write, MakeObject, CallOf, Frame, Pending, LogicFrame, ChoiceFrame, ChangeFrame, BaseFrame, KeyFrame, CalleeFrame, CallFrame, Store, Move, Goes, Stops}
use Rattle.actx_table.specs.Answers.{gives, makes, throws, answered, code_of, with_heap}
use Rattle.actx_table.specs.Forms.{method, has_form, form_rule}

-- NAMES AND LITERALS
-- a number literal past the greatest number is outside the profile
abbrev pub eval_number : ℕ → List Frame → Store → Move
eval_number n fs s = if nat_le n greatest then gives (v.Num (pos n)) fs s else Stops Left

-- what is done with the value of a name: one bound nowhere is outside the profile, one without a value throws (6.2.5.5)
abbrev pub with_held : Option Value → (Value → Move) → List Frame → Store → Move
with_held None go fs s = throws ReferenceError fs s
with_held (Some a) go fs s = go a

abbrev pub with_read : Option Found → (Value → Move) → List Frame → Store → Move
with_read None go fs s = Stops Left
with_read (Some f) go fs s = with_held f.cell.value go fs s

abbrev pub eval_name : List ℕ → List Frame → Store → Move
eval_name x fs s = with_read (find s.scopes s.scope x) (λ a. gives a fs s) fs s

-- a name is set: one without a value throws, and so does a constant (6.2.5.6, 9.1.1.1.5)
abbrev pub write_cell : Found → Option Value → Bool → List ℕ → Value → Value → List Frame → Store → Move
write_cell f None constant x new answer fs s = throws ReferenceError fs s
write_cell f (Some old) true x new answer fs s = throws TypeError fs s
write_cell f (Some old) false x new answer fs s = gives answer fs (with_value_at s f.place x new)

abbrev pub write_found : Option Found → List ℕ → Value → Value → List Frame → Store → Move
write_found None x new answer fs s = Stops Left
write_found (Some f) x new answer fs s = write_cell f f.cell.value f.cell.constant x new answer fs s

-- a name is set to a value, and another value is the answer
abbrev pub write_name : List ℕ → Value → Value → List Frame → Store → Move
write_name x new answer fs s = write_found (find s.scopes s.scope x) x new answer fs s

-- x += e and its like: the operator, then the name is set (13.15.2)
abbrev pub change_name : Got → List ℕ → List Frame → Store → Move
change_name (g.Value new) x fs s = write_name x new new fs s
change_name g.Throws x fs s = throws TypeError fs s
change_name g.Leaves x fs s = Stops Left

-- ++x, x-- and their like (13.4)
abbrev pub bumped : Bool → Value → Got
bumped true (v.Num z) = number_or_leaves (sum_of z (pos 1))
bumped false (v.Num z) = number_or_leaves (difference_of z (pos 1))
bumped up _ = g.Leaves

abbrev pub bump_name : Got → Bool → Value → List ℕ → List Frame → Store → Move
bump_name (g.Value new) before old x fs s = write_name x new (if before then new else old) fs s
bump_name _ before old x fs s = Stops Left

abbrev pub eval_bump : List ℕ → Bool → Bool → List Frame → Store → Move
eval_bump x up before fs s = with_read (find s.scopes s.scope x) (λ old. bump_name (bumped up old) before old x fs s) fs s

-- CALLS (10.2.1, 13.3.6.2)
-- the receiver that a function keeps, and the one in its body
abbrev pub kept_receiver : FunctionKind → Value → Value
kept_receiver arrow_kind receiver = receiver
kept_receiver _ receiver = v.Undefined

abbrev pub body_receiver : FunctionKind → Value → Value → Value
body_receiver arrow_kind kept given = kept
body_receiver _ kept given = given

-- a call of a generator or an async function is outside the table
abbrev pub runs_at_once : FunctionKind → Bool
runs_at_once normal_kind = true
runs_at_once arrow_kind = true
runs_at_once _ = false

abbrev pub call_code : Side → Option Code → Value → List Value → List Frame → Store → Move
call_code side None r vs fs s = throws TypeError fs s
call_code side (Some (Native m)) r vs fs s = method side m r vs fs s
call_code side (Some (Closure kind xs ss scope kept)) r vs fs s =
    if runs_at_once kind
    then Goes (ExecBody ss) (CallFrame s.scope s.receiver ∷ fs) (with_call s scope (body_receiver kind kept r) xs vs ss)
    else Stops Left

abbrev pub call : Side → Value → Value → List Value → List Frame → Store → Move
call side f r vs fs s = call_code side (code_of s.heap f) r vs fs s

-- OPERATIONS
abbrev pub unary_rule : List Value → (Value → Got) → List Frame → Store → Move
unary_rule (a ∷ []) f fs s = answered (f a) fs s
unary_rule _ f fs s = Stops Left

abbrev pub binary_rule : BinaryOp → List Value → List Frame → Store → Move
binary_rule op (a ∷ b ∷ []) fs s = answered (binary op a b) fs s
binary_rule op _ fs s = Stops Left

abbrev pub set_rule : List ℕ → List Value → List Frame → Store → Move
set_rule x (a ∷ []) fs s = write_name x a a fs s
set_rule x _ fs s = Stops Left

-- a property is read (13.3.2, 13.3.3)
abbrev pub read_rule : Option (List ℕ) → List Value → List Frame → Store → Move
read_rule (Some key) (b ∷ []) fs s = answered (get s.heap b (v.Text key)) fs s
read_rule None (b ∷ k ∷ []) fs s = answered (get s.heap b k) fs s
read_rule _ _ fs s = Stops Left

-- a property is set (13.15.2)
abbrev pub put_answered : Put × List (Thing Code) → Value → List Frame → Store → Move
put_answered (p.Done, heap) a fs s = gives a fs (with_heap s heap)
put_answered (p.Throws, heap) a fs s = throws TypeError fs s
put_answered (p.Leaves, heap) a fs s = Stops Left

abbrev pub write_rule : Option (List ℕ) → List Value → List Frame → Store → Move
write_rule (Some key) (b ∷ a ∷ []) fs s = put_answered (put s.heap b (v.Text key) a) a fs s
write_rule None (b ∷ k ∷ a ∷ []) fs s = put_answered (put s.heap b k a) a fs s
write_rule _ _ fs s = Stops Left

-- the properties of an object literal are set in order; what is no key leaves the profile, and so does the prototype's (13.2.5.5)
abbrev pub with_keyed : Option (List ℕ) → Value → List Prop → (List Prop → Option (List Prop)) → Option (List Prop)
with_keyed None a ps go = None
with_keyed (Some key) a ps go = if is_proto key then None else go (with_prop key a ps)

abbrev pub literal : List (Option (List ℕ)) → List Value → List Prop → Option (List Prop)
literal [] vs ps = Some ps
literal (Some key ∷ keys) (a ∷ vs) ps = with_keyed (Some key) a ps (literal keys vs)
literal (None ∷ keys) (k ∷ a ∷ vs) ps = with_keyed (key_text k) a ps (literal keys vs)
literal _ _ ps = None

abbrev pub object_made : Option (List Prop) → List Frame → Store → Move
object_made (Some ps) fs s = makes (Plain ps) fs s
object_made None fs s = Stops Left

abbrev pub call_rule : Side → Value → List Value → List Frame → Store → Move
call_rule side r [] fs s = Stops Left
call_rule side r (f ∷ vs) fs s = call side f r vs fs s

-- what is done with the values of all children
abbrev pub rule : Side → Op → List Value → List Frame → Store → Move
rule side (Prefix op) vs fs s = unary_rule vs (unary s.heap op) fs s
rule side (Infix op) vs fs s = binary_rule op vs fs s
rule side (BuiltIn form) vs fs s = form_rule form vs fs s
rule side (SetVar x) vs fs s = set_rule x vs fs s
rule side (Read key) vs fs s = read_rule key vs fs s
rule side (Write key) vs fs s = write_rule key vs fs s
rule side (MakeObject keys) vs fs s = object_made (literal keys vs []) fs s
rule side (CallOf r) vs fs s = call_rule side r vs fs s

-- the children of an expression in text order; without one its rule applies
abbrev pub eval_parts : Side → Op → List Value → Exprs → List Frame → Store → Move
eval_parts side op vs t.none fs s = rule side op vs fs s
eval_parts side op vs (t.also e es) fs s = Goes (Eval e) (Pending op vs es ∷ fs) s

-- EVALUATING
abbrev pub one : Expr → Exprs
one e = t.also e t.none

-- a property that is read, and one that is set
abbrev pub eval_member : Side → Expr → Key → List Frame → Store → Move
eval_member side b (t.Dot key) fs s = eval_parts side (Read (Some key)) [] (one b) fs s
eval_member side b (t.Index e) fs s = eval_parts side (Read None) [] (t.also b (one e)) fs s

abbrev pub eval_set_member : Side → Expr → Key → Expr → List Frame → Store → Move
eval_set_member side b (t.Dot key) a fs s = eval_parts side (Write (Some key)) [] (t.also b (one a)) fs s
eval_set_member side b (t.Index e) a fs s = eval_parts side (Write None) [] (t.also b (t.also e (one a))) fs s

-- a call of a property has the base and the key first, and then reads the property
abbrev pub eval_call : Side → Expr → Exprs → List Frame → Store → Move
eval_call side (t.Member b key) es fs s = Goes (Eval b) (BaseFrame key es ∷ fs) s
eval_call side f es fs s = eval_parts side (CallOf v.Undefined) [] (t.also f es) fs s

-- an object literal's keys, and its children
abbrev pub keys_of : Properties → List (Option (List ℕ))
keys_of t.no_properties = []
keys_of (t.property (t.Fixed key) e ps) = Some key ∷ keys_of ps
keys_of (t.property (t.Computed k) e ps) = None ∷ keys_of ps

abbrev pub parts_of : Properties → Exprs
parts_of t.no_properties = t.none
parts_of (t.property (t.Fixed key) e ps) = t.also e (parts_of ps)
parts_of (t.property (t.Computed k) e ps) = t.also k (t.also e (parts_of ps))

-- a form of the other side, or with a number of parts that it doesn't take, is outside the profile where it is reached
abbrev pub eval_form : Side → Form → Exprs → List Frame → Store → Move
eval_form side form es fs s = if has_form side form && suits form (count es) then eval_parts side (BuiltIn form) [] es fs s else Stops Left

-- the kinds of function of a side
abbrev pub has_kind : Side → FunctionKind → Bool
has_kind side.Plain normal_kind = true
has_kind side.Plain arrow_kind = true
has_kind side.Plain _ = false
has_kind side.Source async_generator_kind = false
has_kind side.Source _ = true

-- a function; its own name is a constant in a scope between (15.2.5)
abbrev pub make_function : Option (List ℕ) → FunctionKind → List (List ℕ) → Stmts → List Frame → Store → Move
make_function None kind xs ss fs s = makes (Function (Closure kind xs ss s.scope (kept_receiver kind s.receiver))) fs s
make_function (Some x) kind xs ss fs s =
    gives (v.Thing (length s.heap)) fs
    (record s {
      scopes = s.scopes ++ (fixed_cell x (v.Thing (length s.heap)) ∷ []) ∷ [];
      heap = s.heap ++ Function (Closure kind xs ss (length s.scopes ∷ s.scope) (kept_receiver kind s.receiver)) ∷ [];
    })

abbrev pub eval_function : Side → t.Code → List Frame → Store → Move
eval_function side (t.code name kind xs ss) fs s = if has_kind side kind then make_function name kind xs ss fs s else Stops Left

abbrev pub eval : Side → Expr → List Frame → Store → Move
eval side (t.Num n) fs s = eval_number n fs s
eval side (t.Text u) fs s = gives (v.Text u) fs s
eval side (t.Truth b) fs s = gives (v.Truth b) fs s
eval side t.Null fs s = gives v.Null fs s
eval side t.Undefined fs s = gives v.Undefined fs s
eval side t.This fs s = gives s.receiver fs s
eval side (t.Named x) fs s = eval_name x fs s
eval side (t.Unary op e) fs s = eval_parts side (Prefix op) [] (one e) fs s
eval side (t.Binary op a b) fs s = eval_parts side (Infix op) [] (t.also a (one b)) fs s
eval side (t.Logic op a b) fs s = Goes (Eval a) (LogicFrame op b ∷ fs) s
eval side (t.Choice e a b) fs s = Goes (Eval e) (ChoiceFrame a b ∷ fs) s
eval side (t.SetName x e) fs s = eval_parts side (SetVar x) [] (one e) fs s
eval side (t.SetMember b key e) fs s = eval_set_member side b key e fs s
eval side (t.Change x op e) fs s = with_read (find s.scopes s.scope x) (λ old. Goes (Eval e) (ChangeFrame x op old ∷ fs) s) fs s
eval side (t.Bump x up before) fs s = eval_bump x up before fs s
eval side (t.Member b key) fs s = eval_member side b key fs s
eval side (t.Call f es) fs s = eval_call side f es fs s
eval side (t.Object ps) fs s = eval_parts side (MakeObject (keys_of ps)) [] (parts_of ps) fs s
eval side (t.Function f) fs s = eval_function side f fs s
eval side (t.Built form es) fs s = eval_form side form es fs s
eval side (t.Yield e) fs s = Stops Left
eval side (t.YieldAll e) fs s = Stops Left
eval side (t.Await e) fs s = Stops Left

-- A VALUE AT AN EXPRESSION'S FRAME
abbrev pub logic_given : LogicOp → Value → Expr → List Frame → Store → Move
logic_given op a right fs s = if is_settled op a then gives a fs s else Goes (Eval right) fs s

abbrev pub choice_given : Value → Expr → Expr → List Frame → Store → Move
choice_given test a b fs s = Goes (Eval (if is_true test then a else b)) fs s

-- the property of a call's base: where reading it throws, the frame stays for a later step
abbrev pub callee_read : Got → Frame → Value → Exprs → List Frame → Store → Move
callee_read (g.Value f) waiting b es fs s = gives f (CalleeFrame b es ∷ fs) s
callee_read g.Throws waiting b es fs s = throws TypeError (waiting ∷ fs) s
callee_read g.Leaves waiting b es fs s = Stops Left

abbrev pub base_given : Value → Key → Exprs → List Frame → Store → Move
base_given b (t.Dot key) es fs s = callee_read (get s.heap b (v.Text key)) (BaseFrame (t.Dot key) es) b es fs s
base_given b (t.Index e) es fs s = Goes (Eval e) (KeyFrame b es ∷ fs) s
