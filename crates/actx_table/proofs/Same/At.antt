-- States of the two runs that correspond, whatever is done in them: their frames, scopes, receivers and stores.
use Rattle.std.proofs.Common.{ℕ, List, [], ◌∷◌, ◌++◌, length, sym, subst}
use Rattle.actx_data.specs.declared.value.Value.{Value}
use Rattle.actx_table.specs.Low.{p_}
use Rattle.actx_table.specs.Related.{World, ValueIs, CompletionIs, normal_is, ChainIs, CellsAre, StoreIs, Wait, ForValue, ForCompletion, FramesAre, fits_any, given_is, eval_is, exec_is, exec_part_is, exec_list_is, exec_body_is, done_is, here, MoveIs, goes_is}
use Rattle.actx_table.specs.Renamed.{ExprIs, StmtIs, StmtsAre}
use Rattle.actx_grammar.specs.Tree.{Expr, Stmt, Stmts}
use Rattle.actx_table.specs.Scopes.{with_value_at, with_set, back_to}
use Rattle.actx_table.specs.State.{Completion, Normal, Cell, Eval, Exec, ExecPart, ExecList, ExecBody, Given, Done, Frame, Store, Goes}
use Rattle.actx_table.proofs.Same.Growth.{scope_world, grows_scope, value_later, frames_later, later_scope, later_set}
use Rattle.actx_table.proofs.Same.Names.{SetIs, set_in_is}
use Rattle.actx_table.proofs.Same.Stores.{store_scope, new_chain, store_moved}

pub record At (w : World) (wait : Wait) (fs gs : List Frame) (s r : Store) : Type 0 where
  pub frames : FramesAre w r.heap r.scopes wait fs gs
  pub chain : ChainIs w s.scope r.scope
  pub receiver : ValueIs w s.receiver r.receiver
  pub store : StoreIs w s r

-- other frames in the same stores
pub onto : {w : World} {wait other : Wait} {fs gs hs is : List Frame} {s r : Store} → At w wait fs gs s r → FramesAre w r.heap r.scopes other hs is → At w other hs is s r
onto h f = record { frames = f; chain = h.chain; receiver = h.receiver; store = h.store }

-- THE NEXT TASK
pub evals : {w : World} {e d : Expr} {fs gs : List Frame} {s r : Store} → ExprIs e d → At w ForValue fs gs s r → MoveIs (Goes (Eval e) fs s) (Goes (Eval d) gs r)
evals {w = w} x h = goes_is w (eval_is x h.frames) (here h.chain h.receiver) h.store

pub executes : {w : World} {st dt : Stmt} {fs gs : List Frame} {s r : Store} → StmtIs st dt → At w ForCompletion fs gs s r → MoveIs (Goes (Exec st) fs s) (Goes (Exec dt) gs r)
executes {w = w} x h = goes_is w (exec_is x h.frames) (here h.chain h.receiver) h.store

pub executes_part : {w : World} {st dt : Stmt} {fs gs : List Frame} {s r : Store} → StmtIs st dt → At w ForCompletion fs gs s r → MoveIs (Goes (ExecPart st) fs s) (Goes (ExecPart dt) gs r)
executes_part {w = w} x h = goes_is w (exec_part_is x h.frames) (here h.chain h.receiver) h.store

pub executes_list : {w : World} {ss ts : Stmts} {fs gs : List Frame} {s r : Store} → StmtsAre ss ts → At w ForCompletion fs gs s r → MoveIs (Goes (ExecList ss) fs s) (Goes (ExecList ts) gs r)
executes_list {w = w} x h = goes_is w (exec_list_is x h.frames) (here h.chain h.receiver) h.store

pub executes_body : {w : World} {ss ts : Stmts} {fs gs : List Frame} {s r : Store} → StmtsAre ss ts → At w ForCompletion fs gs s r → MoveIs (Goes (ExecBody ss) fs s) (Goes (ExecBody ts) gs r)
executes_body {w = w} x h = goes_is w (exec_body_is x h.frames) (here h.chain h.receiver) h.store

pub gives_at : {w : World} {a b : Value} {fs gs : List Frame} {s r : Store} → ValueIs w a b → At w ForValue fs gs s r → MoveIs (Goes (Given a) fs s) (Goes (Given b) gs r)
gives_at {w = w} x h = goes_is w (given_is x h.frames) (here h.chain h.receiver) h.store

pub completes_at : {w : World} {c d : Completion} {fs gs : List Frame} {s r : Store} → CompletionIs w c d → At w ForCompletion fs gs s r → MoveIs (Goes (Done c) fs s) (Goes (Done d) gs r)
completes_at {w = w} {c = c} x h = goes_is w (done_is ForCompletion (fits_any c) x h.frames) (here h.chain h.receiver) h.store

pub normal_at : {w : World} {fs gs : List Frame} {s r : Store} → At w ForCompletion fs gs s r → MoveIs (Goes (Done Normal) fs s) (Goes (Done Normal) gs r)
normal_at h = completes_at normal_is h

-- SCOPES
-- the scopes and receivers that were there before
pub moved_back : {w : World} {wait : Wait} {fs gs : List Frame} {s r : Store} {b c : List ℕ} → At w wait fs gs s r → ChainIs w b c → At w wait fs gs (back_to s b) (back_to r c)
moved_back {w = w} {s = s} {r = r} {b = b} {c = c} h k = record { frames = h.frames; chain = k; receiver = h.receiver; store = store_moved w s r h.store b c s.receiver r.receiver }

-- a new scope of both, in scopes that correspond
pub scope_at : {w : World} {wait : Wait} {fs gs : List Frame} {s r : Store} {b c : List ℕ} {cs ds : List Cell} → At w wait fs gs s r → ChainIs w b c → CellsAre w cs ds → At (scope_world w (length r.scopes)) wait fs gs (record s { scope = length s.scopes ∷ b; scopes = s.scopes ++ cs ∷ [] }) (record r { scope = length r.scopes ∷ c; scopes = r.scopes ++ ds ∷ [] })
scope_at {w = w} {s = s} {r = r} {b = b} {c = c} {cs = cs} {ds = ds} h k cells =
    record {
      frames = frames_later (later_scope w r.heap r.scopes ds) h.frames;
      chain = new_chain w s r h.store b c k;
      receiver = value_later w (scope_world w (length r.scopes)) (grows_scope w (length r.scopes)) _ _ h.receiver;
      store = store_scope w s r h.store (length s.scopes ∷ b) (length r.scopes ∷ c) s.receiver r.receiver cs ds cells;
    }

-- A NAME'S VALUE
pub store_set : (w : World) (s r : Store) → StoreIs w s r → (k j : ℕ) (x : List ℕ) (a b : Value) → SetIs w s r k j x a b → StoreIs w (with_value_at s k x a) (with_value_at r j (p_ x) b)
store_set w s r st k j x a b h = record { scopes = h.scopes; heap = st.heap; shown = st.shown; events = st.events; quiet = record { source_callbacks = st.quiet.source_callbacks; target_callbacks = st.quiet.target_callbacks; source_jobs = st.quiet.source_jobs; target_jobs = st.quiet.target_jobs }; top = h.top; prelude = st.prelude; agent = st.agent; get_method = st.get_method; run_method = st.run_method }

pub value_at : {w : World} {wait : Wait} {fs gs : List Frame} {s r : Store} → At w wait fs gs s r → (k j : ℕ) (x : List ℕ) (a b : Value) → SetIs w s r k j x a b → At w wait fs gs (with_value_at s k x a) (with_value_at r j (p_ x) b)
value_at {w = w} {s = s} {r = r} h k j x a b set = record { frames = frames_later (later_set w r.heap r.scopes k j _ set.paired) h.frames; chain = h.chain; receiver = h.receiver; store = store_set w s r h.store k j x a b set }

pub set_at : {w : World} {wait : Wait} {fs gs : List Frame} {s r : Store} → At w wait fs gs s r → (x : List ℕ) (a b : Value) → ValueIs w a b → At w wait fs gs (with_set s x a) (with_set r (p_ x) b)
set_at {w = w} {wait = wait} {fs = fs} {gs = gs} {s = s} {r = r} h x a b value =
    let set = set_in_is w s r x a b s.scope r.scope h.chain value h.store.scopes h.store.top in
    subst (λ t. At w wait fs gs t (with_set r (p_ x) b)) (sym set.source) (subst (λ t. At w wait fs gs (with_value_at s set.place x a) t) (sym set.target) (value_at h set.place set.at x a b set.set))
