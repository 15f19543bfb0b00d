-- The rows of statements: what is executed, and what a value or a completion does at a statement's frame.
use Rattle.std.proofs.Common.{◌≡◌, ℕ, Bool, true, false, List, [], ◌∷◌, ◌++◌, length, Some, refl}
use Rattle.std.specs.Prelude.{if◌then◌else◌, slice_get}
use Rattle.actx_data.specs.declared.end.End.TheVariants.{Left}
use Rattle.actx_data.specs.declared.value.Value.{Value}
use Rattle.actx_grammar.specs.declared.side.Side.TheVariants.{Source, Plain}
use Rattle.actx_grammar.specs.Tree as t
use Rattle.actx_grammar.specs.Tree.{MaybeExpr, LetItems, ConstItems, Init, Catch, Last, Stmt, MaybeStmt, Stmts, Expr}
use Rattle.actx_table.specs.Related.{World, ValueIs, undefined_is, truth_is, CompletionIs, normal_is, break_is, continue_is, return_is, throw_is, ChainIs, last_scope, more_scopes, no_cells, LoopIs, loop_is, ForCompletion, let_is, const_is, value_frame_is, return_frame_is, throw_frame_is, if_is, test_is, for_let_is, for_const_is, for_init_is, for_test_is, for_update_is, turn_is, for_copy_is, for_turn_is, try_is, catch_frame_is, last_frame_is, list_is, MoveIs, stops_is}
use Rattle.actx_table.specs.Renamed.{normal_runs, arrow_runs, CodeIs, code_is, ExprIs, MaybeIs, nothing_is, something_is, LetsAre, no_lets_are, more_lets, ConstsAre, no_consts_are, more_consts, InitIs, init_nothing_is, init_let_is, init_const_is, init_value_is, StmtIs, let_stmt, const_stmt, fun_stmt, block_stmt, if_stmt, while_stmt, do_while_stmt, for_stmt, break_stmt, continue_stmt, return_stmt, throw_stmt, try_stmt, value_stmt, empty_stmt, BranchIs, no_branch, some_branch, CatchIs, no_catch_is, some_catch, LastIs, no_last_is, some_last, StmtsAre, no_stmts, more_stmts}
use Rattle.actx_table.specs.Scopes.{cells_at, with_copy, copy_in, back_to}
use Rattle.actx_table.specs.State.{Completion, Eval, Loop, Done, ReturnFrame, Frame, Store, Move, Goes, Stops}
use Rattle.actx_table.specs.Statements.{may_break, may_continue, may_return, completes, begin_let, begin_const, exec_body, begin_test, begin_update, begin_for_let, begin_for_const, exec_for, exec_return, exec, exec_part, branch, turn, for_turn, next_statement, list_done, turn_done, copy_done, for_done, begin_last, caught, try_done, last_done}
use Rattle.actx_table.proofs.Same.Names.{cells_at_is}
use Rattle.actx_table.proofs.Same.Declared.{with_lets_is, with_consts_is, catch_scope_is}
use Rattle.actx_table.proofs.Same.Growth.{scope_world, grows_scope, chain_later, loop_later}
use Rattle.actx_table.proofs.Same.Misplaced.{break_same, continue_same, return_same}
use Rattle.actx_table.proofs.Same.At.{At, onto, evals, executes, executes_part, executes_list, gives_at, completes_at, normal_at, moved_back, scope_at}
use Rattle.actx_table.proofs.Same.EnteredRows.{list_rule}

module _ {w : World} where
  -- MISPLACED STATEMENTS
  completes_rule : {c d : Completion} {fs gs : List Frame} {s r : Store} (a b : Bool) → b ≡ a → CompletionIs w c d → At w ForCompletion fs gs s r → MoveIs (completes a c fs s) (completes b d gs r)
  completes_rule true true e k h = completes_at k h
  completes_rule false false e k h = stops_is Left
  completes_rule true false e k h = absurd (cc)
  completes_rule false true e k h = absurd (cc)

  value_returned : {e d : Expr} {fs gs : List Frame} {s r : Store} (a b : Bool) → b ≡ a → ExprIs e d → At w ForCompletion fs gs s r → MoveIs (exec_return (t.some_expr e) fs s) (exec_return (t.some_expr d) gs r)
  value_returned {e = e} {d = d} {fs = fs} {gs = gs} {s = s} {r = r} a b same x h = by (may_return fs) (may_return gs) (return_same w r.heap r.scopes fs gs h.frames)
    where
      by : (a b : Bool) → b ≡ a → MoveIs (if a then Goes (Eval e) (ReturnFrame ∷ fs) s else Stops Left) (if b then Goes (Eval d) (ReturnFrame ∷ gs) r else Stops Left)
      by true true q = evals x (onto h (return_frame_is h.frames))
      by false false q = stops_is Left
      by true false q = absurd (cc)
      by false true q = absurd (cc)

  return_rule : {e d : MaybeExpr} {fs gs : List Frame} {s r : Store} → MaybeIs e d → At w ForCompletion fs gs s r → MoveIs (exec_return e fs s) (exec_return d gs r)
  return_rule {fs = fs} {gs = gs} {r = r} nothing_is h = completes_rule (may_return fs) (may_return gs) (return_same w r.heap r.scopes fs gs h.frames) (return_is undefined_is) h
  return_rule (something_is x) h = value_returned true true refl x h

  -- DECLARATIONS
  pub let_rule : {is js : LetItems} {fs gs : List Frame} {s r : Store} → LetsAre is js → At w ForCompletion fs gs s r → MoveIs (begin_let is fs s) (begin_let js gs r)
  let_rule no_lets_are h = normal_at h
  let_rule (more_lets x nothing_is m) h = gives_at undefined_is (onto h (let_is x m h.frames))
  let_rule (more_lets x (something_is e) m) h = evals e (onto h (let_is x m h.frames))

  pub const_rule : {is js : ConstItems} {fs gs : List Frame} {s r : Store} → ConstsAre is js → At w ForCompletion fs gs s r → MoveIs (begin_const is fs s) (begin_const js gs r)
  const_rule no_consts_are h = normal_at h
  const_rule (more_consts x e m) h = evals e (onto h (const_is x m h.frames))

  -- LISTS
  pub body_rule : {ss ts : Stmts} {fs gs : List Frame} {s r : Store} → StmtsAre ss ts → At w ForCompletion fs gs s r → MoveIs (exec_body ss fs s) (exec_body ts gs r)
  body_rule no_stmts h = normal_at h
  body_rule (more_stmts x m) h = executes x (onto h (list_is m h.chain h.frames))

  pub next_rule : {ss ts : Stmts} {a b : List ℕ} {fs gs : List Frame} {s r : Store} → StmtsAre ss ts → ChainIs w a b → At w ForCompletion fs gs s r → MoveIs (next_statement ss a fs s) (next_statement ts b gs r)
  next_rule no_stmts k h = normal_at (moved_back h k)
  next_rule (more_stmts x m) k h = executes x (onto h (list_is m k h.frames))

  -- LOOPS
  test_rule : {e d : MaybeExpr} {l m : Loop} {fs gs : List Frame} {s r : Store} → MaybeIs e d → LoopIs w l m → At w ForCompletion fs gs s r → MoveIs (begin_test e l fs s) (begin_test d m gs r)
  test_rule nothing_is l h = gives_at (truth_is true) (onto h (for_test_is l h.frames))
  test_rule (something_is e) l h = evals e (onto h (for_test_is l h.frames))

  pub loop_tested : {l m : Loop} {fs gs : List Frame} {s r : Store} → LoopIs w l m → At w ForCompletion fs gs s r → MoveIs (begin_test l.test l fs s) (begin_test m.test m gs r)
  loop_tested (loop_is copies e u st k) h = test_rule e (loop_is copies e u st k) h

  update_rule : {e d : MaybeExpr} {l m : Loop} {fs gs : List Frame} {s r : Store} → MaybeIs e d → LoopIs w l m → At w ForCompletion fs gs s r → MoveIs (begin_update e l fs s) (begin_update d m gs r)
  update_rule nothing_is l h = loop_tested l h
  update_rule (something_is e) l h = evals e (onto h (for_update_is l h.frames))

  loop_updated : {l m : Loop} {fs gs : List Frame} {s r : Store} → LoopIs w l m → At w ForCompletion fs gs s r → MoveIs (begin_update l.update l fs s) (begin_update m.update m gs r)
  loop_updated (loop_is copies e u st k) h = update_rule u (loop_is copies e u st k) h

  pub for_let_rule : {is js : LetItems} {l m : Loop} {fs gs : List Frame} {s r : Store} → LetsAre is js → LoopIs w l m → At w ForCompletion fs gs s r → MoveIs (begin_for_let is l fs s) (begin_for_let js m gs r)
  for_let_rule no_lets_are l h = normal_at (onto h (for_copy_is l h.frames))
  for_let_rule (more_lets x nothing_is m) l h = gives_at undefined_is (onto h (for_let_is x m l h.frames))
  for_let_rule (more_lets x (something_is e) m) l h = evals e (onto h (for_let_is x m l h.frames))

  pub for_const_rule : {is js : ConstItems} {l m : Loop} {fs gs : List Frame} {s r : Store} → ConstsAre is js → LoopIs w l m → At w ForCompletion fs gs s r → MoveIs (begin_for_const is l fs s) (begin_for_const js m gs r)
  for_const_rule no_consts_are l h = loop_tested l h
  for_const_rule (more_consts x e m) l h = evals e (onto h (for_const_is x m l h.frames))

  -- the scope that comes back where a loop ends
  pub loop_left : {c d : Completion} {l m : Loop} {fs gs : List Frame} {s r : Store} → CompletionIs w c d → LoopIs w l m → At w ForCompletion fs gs s r → MoveIs (Goes (Done c) fs (back_to s l.back)) (Goes (Done d) gs (back_to r m.back))
  loop_left c (loop_is copies e u st k) h = completes_at c (moved_back h k)

-- what is done with a copy of a loop's scope
module _ {w : World} where
  copied_rule : {l m : Loop} {fs gs : List Frame} {s r : Store} (go : Loop → List Frame → Store → Move) → ((w : World) (l m : Loop) (fs gs : List Frame) (s r : Store) → LoopIs w l m → At w ForCompletion fs gs s r → MoveIs (go l fs s) (go m gs r)) → LoopIs w l m → At w ForCompletion fs gs s r → MoveIs (go l fs (with_copy s l.copies l.back)) (go m gs (with_copy r m.copies m.back))
  copied_rule {fs = fs} {gs = gs} {s = s} {r = r} go rule (loop_is false e u st k) h = rule w _ _ fs gs s r (loop_is false e u st k) h
  copied_rule {fs = fs} {gs = gs} {s = s} {r = r} go rule (loop_is true {test = test} {text = text} {update = update} {change = change} {st = st} {dt = dt} {b = b} {c = c} e u x k) h = by s.scope r.scope h.chain
    where
      l : Loop
      l = record { copies = true; test = test; update = update; body = st; back = b }

      m : Loop
      m = record { copies = true; test = text; update = change; body = dt; back = c }

      copy : (i j : ℕ) → slice_get w.scopes i ≡ Some j → MoveIs (go l fs (record s { scope = length s.scopes ∷ b; scopes = s.scopes ++ cells_at s.scopes i ∷ [] })) (go m gs (record r { scope = length r.scopes ∷ c; scopes = r.scopes ++ cells_at r.scopes j ∷ [] }))
      copy i j e1 = rule (scope_world w (length r.scopes)) l m fs gs _ _ (loop_later w (scope_world w (length r.scopes)) (grows_scope w (length r.scopes)) l m (loop_is true e u x k)) (scope_at h k (cells_at_is w s.scopes r.scopes i j e1 h.store.scopes))

      by : (ks js : List ℕ) → ChainIs w ks js → MoveIs (go l fs (copy_in s ks b)) (go m gs (copy_in r js c))
      by ks js (last_scope i e1) = copy i 0 e1
      by ks js (more_scopes i j e1 t) = copy i j e1

  pub copy_done_rule : {c d : Completion} {l m : Loop} {fs gs : List Frame} {s r : Store} → CompletionIs w c d → LoopIs w l m → At w ForCompletion fs gs s r → MoveIs (copy_done c l fs s) (copy_done d m gs r)
  copy_done_rule normal_is l h = copied_rule (λ l fs s. begin_test l.test l fs s) (λ w l m fs gs s r k g. loop_tested k g) l h
  copy_done_rule break_is l h = loop_left break_is l h
  copy_done_rule continue_is l h = loop_left continue_is l h
  copy_done_rule (return_is x) l h = loop_left (return_is x) l h
  copy_done_rule (throw_is x) l h = loop_left (throw_is x) l h

  pub for_done_rule : {c d : Completion} {l m : Loop} {fs gs : List Frame} {s r : Store} → CompletionIs w c d → LoopIs w l m → At w ForCompletion fs gs s r → MoveIs (for_done c l fs s) (for_done d m gs r)
  for_done_rule normal_is l h = copied_rule (λ l fs s. begin_update l.update l fs s) (λ w l m fs gs s r k g. loop_updated k g) l h
  for_done_rule continue_is l h = copied_rule (λ l fs s. begin_update l.update l fs s) (λ w l m fs gs s r k g. loop_updated k g) l h
  for_done_rule break_is l h = loop_left normal_is l h
  for_done_rule (return_is x) l h = loop_left (return_is x) l h
  for_done_rule (throw_is x) l h = loop_left (throw_is x) l h

  for_rule : {i j : Init} {test text update change : MaybeExpr} {st dt : Stmt} {fs gs : List Frame} {s r : Store} → InitIs i j → MaybeIs test text → MaybeIs update change → StmtIs st dt → At w ForCompletion fs gs s r → MoveIs (exec_for i test update st fs s) (exec_for j text change dt gs r)
  for_rule init_nothing_is e u x h = test_rule e (loop_is false e u x h.chain) h
  for_rule (init_value_is i) e u x h = evals i (onto h (for_init_is (loop_is false e u x h.chain) h.frames))
  for_rule {s = s} {r = r} (init_let_is m) e u x h = for_let_rule m (loop_is true e u x (chain_later w (scope_world w (length r.scopes)) (grows_scope w (length r.scopes)) _ _ h.chain)) (scope_at h h.chain (with_lets_is w _ _ [] [] m no_cells))
  for_rule {s = s} {r = r} (init_const_is m) e u x h = for_const_rule m (loop_is false e u x (chain_later w (scope_world w (length r.scopes)) (grows_scope w (length r.scopes)) _ _ h.chain)) (scope_at h h.chain (with_consts_is w _ _ [] [] m no_cells))

  -- EXECUTING
  fun_rule : {f g : t.Code} {fs gs : List Frame} {s r : Store} → CodeIs f g → At w ForCompletion fs gs s r → MoveIs (exec Source (t.Fun f) fs s) (exec Plain (t.Fun g) gs r)
  fun_rule (code_is normal_runs n p m) h = normal_at h
  fun_rule (code_is arrow_runs n p m) h = normal_at h

  pub exec_rule : {st dt : Stmt} {fs gs : List Frame} {s r : Store} → StmtIs st dt → At w ForCompletion fs gs s r → MoveIs (exec Source st fs s) (exec Plain dt gs r)
  exec_rule (let_stmt m) h = let_rule m h
  exec_rule (const_stmt m) h = const_rule m h
  exec_rule (fun_stmt f) h = fun_rule f h
  exec_rule (block_stmt m) h = list_rule m h
  exec_rule (if_stmt e x b) h = evals e (onto h (if_is x b h.frames))
  exec_rule (while_stmt e x) h = evals e (onto h (test_is e x h.frames))
  exec_rule (do_while_stmt x e) h = executes_part x (onto h (turn_is e x h.frames))
  exec_rule (for_stmt i e u x) h = for_rule i e u x h
  exec_rule {fs = fs} {gs = gs} {r = r} break_stmt h = completes_rule (may_break fs) (may_break gs) (break_same w r.heap r.scopes fs gs h.frames) break_is h
  exec_rule {fs = fs} {gs = gs} {r = r} continue_stmt h = completes_rule (may_continue fs) (may_continue gs) (continue_same w r.heap r.scopes fs gs h.frames) continue_is h
  exec_rule (return_stmt e) h = return_rule e h
  exec_rule (throw_stmt e) h = evals e (onto h (throw_frame_is h.frames))
  exec_rule (try_stmt m c l) h = executes_list m (onto h (try_is c l h.chain h.frames))
  exec_rule (value_stmt e) h = evals e (onto h (value_frame_is h.frames))
  exec_rule empty_stmt h = normal_at h

  pub part_rule : {st dt : Stmt} {fs gs : List Frame} {s r : Store} → StmtIs st dt → At w ForCompletion fs gs s r → MoveIs (exec_part Source st fs s) (exec_part Plain dt gs r)
  part_rule (let_stmt m) h = stops_is Left
  part_rule (const_stmt m) h = stops_is Left
  part_rule (fun_stmt f) h = stops_is Left
  part_rule (block_stmt m) h = exec_rule (block_stmt m) h
  part_rule (if_stmt e x b) h = exec_rule (if_stmt e x b) h
  part_rule (while_stmt e x) h = exec_rule (while_stmt e x) h
  part_rule (do_while_stmt x e) h = exec_rule (do_while_stmt x e) h
  part_rule (for_stmt i e u x) h = exec_rule (for_stmt i e u x) h
  part_rule break_stmt h = exec_rule break_stmt h
  part_rule continue_stmt h = exec_rule continue_stmt h
  part_rule (return_stmt e) h = exec_rule (return_stmt e) h
  part_rule (throw_stmt e) h = exec_rule (throw_stmt e) h
  part_rule (try_stmt m c l) h = exec_rule (try_stmt m c l) h
  part_rule (value_stmt e) h = exec_rule (value_stmt e) h
  part_rule empty_stmt h = exec_rule empty_stmt h

  -- A VALUE AT A STATEMENT'S FRAME
  pub branch_rule : {st dt : Stmt} {other another : MaybeStmt} {fs gs : List Frame} {s r : Store} (a b : Bool) → b ≡ a → StmtIs st dt → BranchIs other another → At w ForCompletion fs gs s r → MoveIs (branch a st other fs s) (branch b dt another gs r)
  branch_rule true true q x o h = executes_part x h
  branch_rule false false q x no_branch h = normal_at h
  branch_rule false false q x (some_branch y) h = executes_part y h
  branch_rule true false q x o h = absurd (cc)
  branch_rule false true q x o h = absurd (cc)

  pub turn_rule : {e d : Expr} {st dt : Stmt} {fs gs : List Frame} {s r : Store} (a b : Bool) → b ≡ a → ExprIs e d → StmtIs st dt → At w ForCompletion fs gs s r → MoveIs (turn a e st fs s) (turn b d dt gs r)
  turn_rule true true q e x h = executes_part x (onto h (turn_is e x h.frames))
  turn_rule false false q e x h = normal_at h
  turn_rule true false q e x h = absurd (cc)
  turn_rule false true q e x h = absurd (cc)

  pub for_turn_rule : {l m : Loop} {fs gs : List Frame} {s r : Store} (a b : Bool) → b ≡ a → LoopIs w l m → At w ForCompletion fs gs s r → MoveIs (for_turn a l fs s) (for_turn b m gs r)
  for_turn_rule true true q (loop_is copies e u x k) h = executes_part x (onto h (for_turn_is (loop_is copies e u x k) h.frames))
  for_turn_rule false false q l h = loop_left normal_is l h
  for_turn_rule true false q l h = absurd (cc)
  for_turn_rule false true q l h = absurd (cc)

  -- A COMPLETION AT A STATEMENT'S FRAME
  pub list_done_rule : {c d : Completion} {ss ts : Stmts} {a b : List ℕ} {fs gs : List Frame} {s r : Store} → CompletionIs w c d → StmtsAre ss ts → ChainIs w a b → At w ForCompletion fs gs s r → MoveIs (list_done c ss a fs s) (list_done d ts b gs r)
  list_done_rule normal_is m k h = next_rule m k h
  list_done_rule break_is m k h = completes_at break_is (moved_back h k)
  list_done_rule continue_is m k h = completes_at continue_is (moved_back h k)
  list_done_rule (return_is x) m k h = completes_at (return_is x) (moved_back h k)
  list_done_rule (throw_is x) m k h = completes_at (throw_is x) (moved_back h k)

  pub turn_done_rule : {c d : Completion} {e f : Expr} {st dt : Stmt} {fs gs : List Frame} {s r : Store} → CompletionIs w c d → ExprIs e f → StmtIs st dt → At w ForCompletion fs gs s r → MoveIs (turn_done c e st fs s) (turn_done d f dt gs r)
  turn_done_rule normal_is e x h = evals e (onto h (test_is e x h.frames))
  turn_done_rule continue_is e x h = evals e (onto h (test_is e x h.frames))
  turn_done_rule break_is e x h = normal_at h
  turn_done_rule (return_is v) e x h = completes_at (return_is v) h
  turn_done_rule (throw_is v) e x h = completes_at (throw_is v) h

  pub last_rule : {c d : Completion} {l m : Last} {fs gs : List Frame} {s r : Store} → LastIs l m → CompletionIs w c d → At w ForCompletion fs gs s r → MoveIs (begin_last l c fs s) (begin_last m d gs r)
  last_rule no_last_is c h = completes_at c h
  last_rule (some_last x) c h = executes_list x (onto h (last_frame_is c h.frames))

  caught_rule : {c d : Catch} {l m : Last} {a b : List ℕ} {x y : Value} {fs gs : List Frame} {s r : Store} → CatchIs c d → LastIs l m → ChainIs w a b → ValueIs w x y → At w ForCompletion fs gs s r → MoveIs (caught c l a x fs s) (caught d m b y gs r)
  caught_rule no_catch_is l k x h = last_rule l (throw_is x) h
  caught_rule {r = r} (some_catch n m) l k x h =
      let g = scope_at h h.chain (catch_scope_is w _ _ _ _ n x) in
      executes_list m (onto g (catch_frame_is l (chain_later w (scope_world w (length r.scopes)) (grows_scope w (length r.scopes)) _ _ k) g.frames))

  pub try_done_rule : {x y : Completion} {c d : Catch} {l m : Last} {a b : List ℕ} {fs gs : List Frame} {s r : Store} → CompletionIs w x y → CatchIs c d → LastIs l m → ChainIs w a b → At w ForCompletion fs gs s r → MoveIs (try_done x c l a fs s) (try_done y d m b gs r)
  try_done_rule (throw_is x) c l k h = caught_rule c l k x (moved_back h k)
  try_done_rule normal_is c l k h = last_rule l normal_is (moved_back h k)
  try_done_rule break_is c l k h = last_rule l break_is (moved_back h k)
  try_done_rule continue_is c l k h = last_rule l continue_is (moved_back h k)
  try_done_rule (return_is x) c l k h = last_rule l (return_is x) (moved_back h k)

  pub last_done_rule : {c d x y : Completion} {fs gs : List Frame} {s r : Store} → CompletionIs w c d → CompletionIs w x y → At w ForCompletion fs gs s r → MoveIs (last_done c x fs s) (last_done d y gs r)
  last_done_rule normal_is k h = completes_at k h
  last_done_rule break_is k h = completes_at break_is h
  last_done_rule continue_is k h = completes_at continue_is h
  last_done_rule (return_is x) k h = completes_at (return_is x) h
  last_done_rule (throw_is x) k h = completes_at (throw_is x) h
