-- THE PRELUDE: what stands before every emitted program. Its state is in records that the program never sees, all else
-- is frozen or constant, and its names begin with __.
--
--   "use strict";
--   const __states = new WeakMap();
--   const __now = { mapping: undefined, count: 0 };
--   const __find = (list, number, other) => {
--     if (list) {
--       if (list.number === number) { return list.value; }
--       return __find(list.rest, number, other);
--     }
--     return other;
--   };
--   const __with = (list, number, value) => {
--     if (list) {
--       if (list.number === number) { return Object.freeze({ number: number, value: value, rest: list.rest }); }
--       return Object.freeze({ number: list.number, value: list.value, rest: __with(list.rest, number, value) });
--     }
--     return Object.freeze({ number: number, value: value, rest: undefined });
--   };
--   const __get = function () {
--     const state = __states.get(this);
--     const number = state.number;
--     const value = __find(__now.mapping, number, state.value);
--     __actx.note("get", number, value, undefined);
--     return value;
--   };
--   const __run = function (value, f, a, b, c, d, e, g) {
--     const state = __states.get(this);
--     const number = state.number;
--     const old = __now.mapping;
--     if (typeof f !== "function") { throw new TypeError(); }
--     __now.mapping = __with(old, number, value);
--     try { return f.call(undefined, a, b, c, d, e, g); } finally { __now.mapping = old; }
--   };
--   const __make = (name, value) => {
--     const number = __now.count + 1;
--     const variable = Object.freeze({ get: __get, run: __run, name: name });
--     __now.count = number;
--     __states.set(variable, Object.freeze({ number: number, value: value }));
--     return variable;
--   };
--   const __variable = options => {
--     if (options === null) { __actx.leave(); }
--     if (options === undefined) { return __make("", undefined); }
--     const value = options.defaultValue;
--     const name = options.name;
--     if (name === undefined) { return __make("", value); }
--     if (typeof name !== "string") { __actx.leave(); }
--     return __make(name, value);
--   };
--
-- A mapping is a list of frozen objects, one a variable, whose last one's rest is undefined. What is no variable has no
-- state, and reading its number throws TypeError. Reading defaultValue of what is no plain object leaves the profile.
use Rattle.std.specs.Prelude.{ℕ, List, [], ◌∷◌, None, codes}
use Rattle.actx_grammar.specs.declared.operators.BinaryOp.TheVariants.{Add, Same, NotSame}
use Rattle.actx_grammar.specs.declared.operators.UnaryOp.TheVariants.{Typeof}
use Rattle.actx_data.specs.declared.shown.ErrorName.TheVariants.{TypeError}
use Rattle.actx_grammar.specs.declared.operators.Form.TheVariants.{NewError, NewWeakMap, Freeze, CallWith, Note, Leave}
use Rattle.actx_grammar.specs.declared.operators.FunctionKind.{FunctionKind}
use Rattle.actx_grammar.specs.declared.operators.FunctionKind.TheVariants.{Normal, Arrow}
use Rattle.actx_grammar.specs.Tree.{Expr, Num, Text, Null, Undefined, This, Unary, Named, Binary, Member, SetMember, Call, Object, Function, Built, Exprs, none, also, some_expr, Dot, Fixed, Properties, no_properties, property, code, no_consts, const_item, Stmt, Const, Value, Return, Throw, Block, If, Try, no_stmt, no_catch, last, Stmts, end, next}

-- NAMES
abbrev pub name_states : List ℕ
name_states = codes "__states"

abbrev pub name_now : List ℕ
name_now = codes "__now"

abbrev pub name_find : List ℕ
name_find = codes "__find"

abbrev pub name_with : List ℕ
name_with = codes "__with"

abbrev pub name_get : List ℕ
name_get = codes "__get"

abbrev pub name_run : List ℕ
name_run = codes "__run"

abbrev pub name_make : List ℕ
name_make = codes "__make"

abbrev pub name_variable : List ℕ
name_variable = codes "__variable"

-- parameters and constants of the functions
abbrev pub the_list : List ℕ
the_list = codes "list"

abbrev pub the_number : List ℕ
the_number = codes "number"

abbrev pub the_other : List ℕ
the_other = codes "other"

abbrev pub the_value : List ℕ
the_value = codes "value"

abbrev pub the_state : List ℕ
the_state = codes "state"

abbrev pub the_old : List ℕ
the_old = codes "old"

abbrev pub the_f : List ℕ
the_f = codes "f"

abbrev pub the_name : List ℕ
the_name = codes "name"

abbrev pub the_variable : List ℕ
the_variable = codes "variable"

abbrev pub the_options : List ℕ
the_options = codes "options"

abbrev pub the_arguments : List (List ℕ)
the_arguments = codes "a" ∷ codes "b" ∷ codes "c" ∷ codes "d" ∷ codes "e" ∷ codes "g" ∷ []

-- keys of the prelude's objects
abbrev pub key_number : List ℕ
key_number = codes "number"

abbrev pub key_value : List ℕ
key_value = codes "value"

abbrev pub key_rest : List ℕ
key_rest = codes "rest"

abbrev pub key_mapping : List ℕ
key_mapping = codes "mapping"

abbrev pub key_count : List ℕ
key_count = codes "count"

-- SHAPES
abbrev pub one : Expr → Exprs
one a = also a none

abbrev pub two : Expr → Expr → Exprs
two a b = also a (one b)

abbrev pub three : Expr → Expr → Expr → Exprs
three a b c = also a (two b c)

abbrev pub all_named : List (List ℕ) → Exprs
all_named [] = none
all_named (x ∷ xs) = also (Named x) (all_named xs)

-- name = e; as a statement of its own
abbrev pub const : List ℕ → Expr → Stmt
const x e = Const (const_item x e no_consts)

-- e.key, and e.key = v
abbrev pub member : Expr → List ℕ → Expr
member e key = Member e (Dot key)

abbrev pub set_member : Expr → List ℕ → Expr → Expr
set_member e key v = SetMember e (Dot key) v

-- key: e in a literal, before more
abbrev pub keyed : List ℕ → Expr → Properties → Properties
keyed key e ps = property (Fixed key) e ps

abbrev pub returns : Expr → Stmt
returns e = Return (some_expr e)

-- if (e) { .. }
abbrev pub when : Expr → Stmts → Stmt
when e ss = If e (Block ss) no_stmt

-- try { .. } finally { .. }
abbrev pub ended_by : Stmts → Stmts → Stmt
ended_by ss ls = Try ss no_catch (last ls)

abbrev pub function_of : FunctionKind → List (List ℕ) → Stmts → Expr
function_of kind xs ss = Function (code None kind xs ss)

-- Object.freeze({ number: .., value: .., rest: .. })
abbrev pub freeze : Properties → Expr
freeze ps = Built Freeze (one (Object ps))

abbrev pub entry_made : Expr → Expr → Expr → Expr
entry_made n v rest = freeze (keyed key_number n (keyed key_value v (keyed key_rest rest no_properties)))

abbrev pub now_mapping : Expr
now_mapping = member (Named name_now) key_mapping

abbrev pub state_of_this : Expr
state_of_this = Call (member (Named name_states) (codes "get")) (one This)

-- FUNCTIONS
abbrev pub find_found : Stmts
find_found = next (returns (member (Named the_list) key_value)) end

abbrev pub find_in_list : Stmts
find_in_list =
    next (when (Binary Same (member (Named the_list) key_number) (Named the_number)) find_found)
    (next (returns (Call (Named name_find) (three (member (Named the_list) key_rest) (Named the_number) (Named the_other)))) end)

abbrev pub find_body : Stmts
find_body = next (when (Named the_list) find_in_list) (next (returns (Named the_other)) end)

abbrev pub with_found : Stmts
with_found = next (returns (entry_made (Named the_number) (Named the_value) (member (Named the_list) key_rest))) end

abbrev pub with_in_list : Stmts
with_in_list =
    next (when (Binary Same (member (Named the_list) key_number) (Named the_number)) with_found)
    (next (returns (entry_made (member (Named the_list) key_number) (member (Named the_list) key_value)
    (Call (Named name_with) (three (member (Named the_list) key_rest) (Named the_number) (Named the_value))))) end)

abbrev pub with_body : Stmts
with_body = next (when (Named the_list) with_in_list) (next (returns (entry_made (Named the_number) (Named the_value) Undefined)) end)

abbrev pub get_body : Stmts
get_body =
    next (const the_state state_of_this)
    (next (const the_number (member (Named the_state) key_number))
    (next (const the_value (Call (Named name_find) (three now_mapping (Named the_number) (member (Named the_state) key_value))))
    (next (Value (Built Note (also (Text (codes "get")) (three (Named the_number) (Named the_value) Undefined))))
    (next (returns (Named the_value)) end))))

abbrev pub run_block : Stmts
run_block = next (returns (Built CallWith (also (Named the_f) (also Undefined (all_named the_arguments))))) end

-- what can't be called is refused before the mapping changes
abbrev pub run_refused : Stmts
run_refused = next (Throw (Built (NewError TypeError) none)) end

abbrev pub run_last : Stmts
run_last = next (Value (set_member (Named name_now) key_mapping (Named the_old))) end

abbrev pub run_body : Stmts
run_body =
    next (const the_state state_of_this)
    (next (const the_number (member (Named the_state) key_number))
    (next (const the_old now_mapping)
    (next (when (Binary NotSame (Unary Typeof (Named the_f)) (Text (codes "function"))) run_refused)
    (next (Value (set_member (Named name_now) key_mapping (Call (Named name_with) (three (Named the_old) (Named the_number) (Named the_value)))))
    (next (ended_by run_block run_last) end)))))

abbrev pub make_body : Stmts
make_body =
    next (const the_number (Binary Add (member (Named name_now) key_count) (Num 1)))
    (next (const the_variable (freeze (keyed (codes "get") (Named name_get) (keyed (codes "run") (Named name_run) (keyed (codes "name") (Named the_name) no_properties)))))
    (next (Value (set_member (Named name_now) key_count (Named the_number)))
    (next (Value (Call (member (Named name_states) (codes "set")) (two (Named the_variable) (freeze (keyed key_number (Named the_number) (keyed key_value (Named the_value) no_properties))))))
    (next (returns (Named the_variable)) end))))

abbrev pub leaves : Stmts
leaves = next (Value (Built Leave none)) end

abbrev pub make_unnamed : Expr → Stmts
make_unnamed value = next (returns (Call (Named name_make) (two (Text []) value))) end

abbrev pub variable_body : Stmts
variable_body =
    next (when (Binary Same (Named the_options) Null) leaves)
    (next (when (Binary Same (Named the_options) Undefined) (make_unnamed Undefined))
    (next (const the_value (member (Named the_options) (codes "defaultValue")))
    (next (const the_name (member (Named the_options) (codes "name")))
    (next (when (Binary Same (Named the_name) Undefined) (make_unnamed (Named the_value)))
    (next (when (Binary NotSame (Unary Typeof (Named the_name)) (Text (codes "string"))) leaves)
    (next (returns (Call (Named name_make) (two (Named the_name) (Named the_value)))) end))))))

-- THE LIST
abbrev pub find_function : Expr
find_function = function_of Arrow (the_list ∷ the_number ∷ the_other ∷ []) find_body

abbrev pub with_function : Expr
with_function = function_of Arrow (the_list ∷ the_number ∷ the_value ∷ []) with_body

abbrev pub get_function : Expr
get_function = function_of Normal [] get_body

abbrev pub run_function : Expr
run_function = function_of Normal (the_value ∷ the_f ∷ the_arguments) run_body

abbrev pub make_function : Expr
make_function = function_of Arrow (the_name ∷ the_value ∷ []) make_body

abbrev pub variable_function : Expr
variable_function = function_of Arrow (the_options ∷ []) variable_body

abbrev pub prelude : Stmts
prelude =
    next (Value (Text (codes "use strict")))
    (next (const name_states (Built NewWeakMap none))
    (next (const name_now (Object (keyed key_mapping Undefined (keyed key_count (Num 0) no_properties))))
    (next (const name_find find_function)
    (next (const name_with with_function)
    (next (const name_get get_function)
    (next (const name_run run_function)
    (next (const name_make make_function)
    (next (const name_variable variable_function) end))))))))
