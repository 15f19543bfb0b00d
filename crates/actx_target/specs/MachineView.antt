-- What the state of the code's machine stands for.
use Rattle.std.specs.Prelude.{List, [], map, option_map, reverse}
use Rattle.actx_data.specs.declared.end.End.{End}
use Rattle.actx_data.specs.declared.end.End.TheVariants.{Going}
use Rattle.actx_grammar.specs.declared.operators.Form.{Form}
use Rattle.actx_grammar.specs.declared.operators.Form.TheVariants as form
use Rattle.actx_grammar.specs.Tree.{Exprs, also, none}
use Rattle.actx_ast.specs.View.{expr_view, exprs_view, consts_view, maybe_stmt, properties_view, stmt_view, stmts_view}
use Rattle.actx_target.specs.Chains.{chain_of}
use Rattle.actx_rules.specs.Machine.{at, stopped, keys_of, values_of}
use Rattle.actx_rules.specs.State as m
use Rattle.actx_target.specs.ThingView.{things_of}
use Rattle.actx_target.specs.declared.machine.Completion.{Completion}
use Rattle.actx_target.specs.declared.machine.Completion.TheVariants as c
use Rattle.actx_target.specs.declared.machine.Task.{Task}
use Rattle.actx_target.specs.declared.machine.Task.TheVariants as k
use Rattle.actx_target.specs.declared.machine.PlainForm.{PlainForm}
use Rattle.actx_target.specs.declared.machine.PlainForm.TheVariants as b
use Rattle.actx_target.specs.declared.machine.Op.{Op}
use Rattle.actx_target.specs.declared.machine.Op.TheVariants as o
use Rattle.actx_target.specs.declared.machine.Parts.{Parts}
use Rattle.actx_target.specs.declared.machine.Parts.TheVariants as p
use Rattle.actx_target.specs.declared.machine.Frame.{Frame}
use Rattle.actx_target.specs.declared.machine.Frame.TheVariants as f
use Rattle.actx_target.specs.declared.machine.Target.{Target}

abbrev pub completion_of : Completion → m.Completion
completion_of c.Normal = m.Normal
completion_of (c.Return v) = m.Return v
completion_of (c.Throw v) = m.Throw v

abbrev pub task_of : Task → m.Task
task_of (k.Eval e) = m.Eval (expr_view e.now)
task_of (k.Exec st) = m.Exec (stmt_view st.now)
task_of (k.ExecList ss) = m.ExecList (stmts_view ss.now)
task_of (k.ExecBody ss) = m.ExecBody (stmts_view ss.now)
task_of (k.Given v) = m.Given v
task_of (k.Done c) = m.Done (completion_of c)
task_of (k.Call f r vs) = m.Call f r vs.items

abbrev pub form_of : PlainForm → Form
form_of b.Log = form.Log
form_of b.NewWeakMap = form.NewWeakMap
form_of b.Freeze = form.Freeze
form_of b.CallWith = form.CallWith
form_of b.Note = form.Note

abbrev pub op_of : Op → m.Op
op_of (o.Operator op) = m.Operator op
op_of (o.BuiltIn b) = m.BuiltIn (form_of b)
op_of (o.GetKey key) = m.GetKey key.now
op_of (o.SetKey key) = m.SetKey key.now
op_of (o.MakeObject ps) = m.MakeObject (keys_of (properties_view ps.now))
op_of (o.CallOf r) = m.CallOf r

abbrev pub parts_of : Parts → Exprs
parts_of (p.Both a b) = also (expr_view a.now) (also (expr_view b.now) none)
parts_of (p.Right b) = also (expr_view b.now) none
parts_of (p.Callee f es) = also (expr_view f.now) (exprs_view es.now)
parts_of (p.List es) = exprs_view es.now
parts_of (p.Values ps) = values_of (properties_view ps.now)

abbrev pub frame_of : Frame → m.Frame
frame_of (f.Pending w) = m.Pending (op_of w.value.op) w.value.values.items (parts_of w.value.rest)
frame_of (f.Base key es) = m.BaseFrame key.now (exprs_view es.now)
frame_of (f.Callee base es) = m.CalleeFrame base (exprs_view es.now)
frame_of (f.Const x is) = m.ConstFrame x.now (consts_view is.now)
frame_of f.Value = m.ValueFrame
frame_of f.Return = m.ReturnFrame
frame_of (f.If branch other) = m.IfFrame (stmt_view branch.now) (maybe_stmt (option_map (λ b. stmt_view b.value) other.now))
frame_of (f.Try ss back) = m.TryFrame (stmts_view ss.now) (chain_of back)
frame_of (f.Last c) = m.LastFrame (completion_of c)
frame_of (f.List ss back) = m.ListFrame (stmts_view ss.now) (chain_of back)
frame_of (f.Call back r) = m.CallFrame (chain_of back) r

abbrev pub frames_of : List Frame → List m.Frame
frames_of fs = map frame_of (reverse fs)

abbrev pub store_in : Target → m.Store
store_in t = record { scope = chain_of t.scope; receiver = t.receiver; scopes = t.scopes.items; heap = things_of t.heap.items; shown = t.shown; events = reverse t.events.items; mapping = []; variables = [] }

abbrev pub going_or_over : End → Target → m.State
going_or_over Going t = at (task_of t.task) (frames_of t.frames.items) (store_in t) t.trace.items
going_or_over e t = stopped e t.trace.items

abbrev pub state_of : Target → m.State
state_of t = going_or_over t.end t

-- a move was made from the old state
abbrev pub frames_in : Target → List m.Frame
frames_in t = frames_of t.frames.items
