-- A small program run on both sides.
use Rattle.std.proofs.Common.{◌≡◌, ℕ, zero, suc, List, [], ◌∷◌, ◌++◌, refl}
use Rattle.std.specs.Prelude.{codes}
use Rattle.actx_data.specs.declared.end.End.TheVariants.{Threw}
use Rattle.actx_data.specs.declared.shown.Shown.TheVariants as h
use Rattle.actx_data.specs.declared.shown.ErrorName.TheVariants.{TypeError}
use Rattle.actx_data.specs.declared.trace.TraceEvent.{TraceEvent}
use Rattle.actx_data.specs.declared.trace.TraceEvent.TheVariants as e
use Rattle.actx_grammar.specs.declared.side.Side.{Side}
use Rattle.actx_grammar.specs.declared.side.Side.TheVariants.{Source, Plain}
use Rattle.actx_grammar.specs.declared.operators.Form.TheVariants.{Log, NewVariable}
use Rattle.actx_grammar.specs.declared.operators.FunctionKind.TheVariants.{Arrow}
use Rattle.actx_grammar.specs.Tree.{Expr, Num, Text, Named, Call, Built, none, also, some_expr, no_properties, Object, Stmt, Const, Value, Return, Stmts, end, next}
use Rattle.actx_rules.specs.State.{Task, ExecList, Frame, Store, State, Move, Goes, Writes, Stops}
use Rattle.actx_rules.specs.Machine.{row, at, stopped, no_store, first_heap}
use Rattle.actx_rules.specs.Low.{low}
use Rattle.actx_rules.specs.Prelude.{const, member, keyed, returns, function_of}

abbrev after_move : Move → (Task → List Frame → Store → List TraceEvent → State) → List TraceEvent → State
after_move (Goes t fs s) k tr = k t fs s tr
after_move (Writes e t fs s) k tr = k t fs s (tr ++ e ∷ [])
after_move (Stops e) k tr = stopped e tr

abbrev drive : Side → ℕ → Task → List Frame → Store → List TraceEvent → State
drive side zero t fs s tr = at t fs s tr
drive side (suc n) t fs s tr = after_move (row side t fs s) (drive side n) tr

abbrev v : Expr
v = Named (codes "v")

abbrev logged : Expr
logged = Built Log (also (Call (member v (codes "get")) none) none)

abbrev inner : Stmt
inner = Value (Call (member v (codes "run")) (also (Text (codes "b")) (also (function_of Arrow [] (next (returns logged) end)) none)))

abbrev outer : Stmt
outer = Value (Call (member v (codes "run")) (also (Text (codes "a")) (also (function_of Arrow [] (next (Value logged) (next inner (next (Value logged) end)))) none)))

abbrev sample : Stmts
sample =
    next (const (codes "v") (Built NewVariable (also (Object (keyed (codes "defaultValue") (Text (codes "d")) no_properties)) none)))
    (next (Value logged) (next outer (next (Value logged) (next (Value (Call (member v (codes "run")) (also (Num 1) none))) end))))

abbrev wrote : List ℕ → List TraceEvent
wrote u = e.Get 1 (h.Text u) ∷ e.Out u ∷ []

abbrev wanted : List TraceEvent
wanted = wrote (codes "d") ++ (wrote (codes "a") ++ (wrote (codes "b") ++ (wrote (codes "a") ++ wrote (codes "d"))))

source_sample : drive Source 200 (ExecList sample) [] (record no_store { heap = first_heap Source }) [] ≡ stopped (Threw (h.Failure 1 TypeError [])) wanted
source_sample = refl

target_sample : drive Plain 1600 (ExecList (low sample)) [] (record no_store { heap = first_heap Plain }) [] ≡ stopped (Threw (h.Failure 1 TypeError [])) wanted
target_sample = refl
