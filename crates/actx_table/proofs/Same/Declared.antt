-- What a list, a call and a catch part declare: the same names on both sides, and functions that correspond.
use Rattle.std.proofs.Common.{◌≡◌, ℕ, ◌≤◌, true, false, List, [], ◌∷◌, ◌++◌, length, length-append, append_assoc, Option, Some, None, refl, sym, ap, ◌∙◌, ◌⊎◌, inl, inr, ⊎_elim, arith}
use Rattle.std.specs.Prelude.{slice_get}
use Rattle.actx_match.specs.Pairing.{Paired}
use Rattle.actx_match.proofs.Pairing.{append_nil, get_cases, paired_weaker, paired_more, paired_place}
use Rattle.actx_data.specs.declared.value.Value.{Value}
use Rattle.actx_data.specs.declared.value.Value.TheVariants as v
use Rattle.actx_grammar.specs.Tree as t
use Rattle.actx_grammar.specs.Tree.{LetItems, ConstItems, Stmts}
use Rattle.actx_heap.specs.Things.{Thing, Function}
use Rattle.actx_table.specs.Renamed.{NamesAre, no_names, more_names, NameIs, no_name, some_name, CodeIs, code_is, LetsAre, no_lets_are, more_lets, ConstsAre, no_consts_are, more_consts, let_stmt, const_stmt, fun_stmt, block_stmt, if_stmt, while_stmt, do_while_stmt, for_stmt, break_stmt, continue_stmt, return_stmt, throw_stmt, try_stmt, value_stmt, empty_stmt, StmtsAre, no_stmts, more_stmts}
use Rattle.actx_table.specs.Scopes.{with_lets, with_consts, with_names, with_params, Made, made_function, with_functions}
use Rattle.actx_table.specs.State.{Cell, Code, Closure}
use Rattle.actx_table.specs.Statements.{catch_scope}
use Rattle.actx_table.specs.Related.{World, ValueIs, undefined_is, thing_is, none_is, some_is, ArgumentsAre, no_arguments, padded_arguments, more_arguments, ChainIs, CellsAre, no_cells, more_cells, ThingIs, closure_is}
use Rattle.actx_table.proofs.Same.Growth.{Grows, grows_same, grows_on, thing_world, grows_thing, chain_later, cells_later, thing_later}
use Rattle.actx_table.proofs.Same.Names.{with_cell_is}

module _ (w : World) where
  -- NAMES
  pub with_lets_is : (is js : LetItems) (cs ds : List Cell) → LetsAre is js → CellsAre w cs ds → CellsAre w (with_lets is cs) (with_lets js ds)
  with_lets_is is js cs ds no_lets_are h = h
  with_lets_is is js cs ds (more_lets x e t) h = with_lets_is _ _ _ _ t (with_cell_is w x false None None cs ds none_is h)

  pub with_consts_is : (is js : ConstItems) (cs ds : List Cell) → ConstsAre is js → CellsAre w cs ds → CellsAre w (with_consts is cs) (with_consts js ds)
  with_consts_is is js cs ds no_consts_are h = h
  with_consts_is is js cs ds (more_consts x e t) h = with_consts_is _ _ _ _ t (with_cell_is w x true None None cs ds none_is h)

  pub with_names_is : (ss ts : Stmts) (cs ds : List Cell) → StmtsAre ss ts → CellsAre w cs ds → CellsAre w (with_names ss cs) (with_names ts ds)
  with_names_is ss ts cs ds no_stmts h = h
  with_names_is ss ts cs ds (more_stmts (let_stmt is) t) h = with_names_is _ _ _ _ t (with_lets_is _ _ cs ds is h)
  with_names_is ss ts cs ds (more_stmts (const_stmt is) t) h = with_names_is _ _ _ _ t (with_consts_is _ _ cs ds is h)
  with_names_is ss ts cs ds (more_stmts (fun_stmt _) t) h = with_names_is _ _ _ _ t h
  with_names_is ss ts cs ds (more_stmts (block_stmt _) t) h = with_names_is _ _ _ _ t h
  with_names_is ss ts cs ds (more_stmts (if_stmt _ _ _) t) h = with_names_is _ _ _ _ t h
  with_names_is ss ts cs ds (more_stmts (while_stmt _ _) t) h = with_names_is _ _ _ _ t h
  with_names_is ss ts cs ds (more_stmts (do_while_stmt _ _) t) h = with_names_is _ _ _ _ t h
  with_names_is ss ts cs ds (more_stmts (for_stmt _ _ _ _) t) h = with_names_is _ _ _ _ t h
  with_names_is ss ts cs ds (more_stmts break_stmt t) h = with_names_is _ _ _ _ t h
  with_names_is ss ts cs ds (more_stmts continue_stmt t) h = with_names_is _ _ _ _ t h
  with_names_is ss ts cs ds (more_stmts (return_stmt _) t) h = with_names_is _ _ _ _ t h
  with_names_is ss ts cs ds (more_stmts (throw_stmt _) t) h = with_names_is _ _ _ _ t h
  with_names_is ss ts cs ds (more_stmts (try_stmt _ _ _) t) h = with_names_is _ _ _ _ t h
  with_names_is ss ts cs ds (more_stmts (value_stmt _) t) h = with_names_is _ _ _ _ t h
  with_names_is ss ts cs ds (more_stmts empty_stmt t) h = with_names_is _ _ _ _ t h

  -- parameters: missing arguments are undefined
  pub with_params_is : (xs ys : List (List ℕ)) (vs ws : List Value) (cs ds : List Cell) → NamesAre xs ys → ArgumentsAre w vs ws → CellsAre w cs ds → CellsAre w (with_params xs vs cs) (with_params ys ws ds)
  with_params_is xs ys vs ws cs ds no_names h k = k
  with_params_is xs ys vs ws cs ds (more_names x n) no_arguments k = with_params_is _ _ [] [] _ _ n no_arguments (with_cell_is w x false _ _ cs ds (some_is undefined_is) k)
  with_params_is xs ys vs ws cs ds (more_names x n) (padded_arguments h) k = with_params_is _ _ [] _ _ _ n h (with_cell_is w x false _ _ cs ds (some_is undefined_is) k)
  with_params_is xs ys vs ws cs ds (more_names x n) (more_arguments a h) k = with_params_is _ _ _ _ _ _ n h (with_cell_is w x false _ _ cs ds (some_is a) k)

  -- the name of a catch part
  pub catch_scope_is : (x y : Option (List ℕ)) (a b : Value) → NameIs x y → ValueIs w a b → CellsAre w (catch_scope x a) (catch_scope y b)
  catch_scope_is x y a b no_name h = no_cells
  catch_scope_is x y a b (some_name z) h = more_cells z false (some_is h) no_cells

-- FUNCTIONS
-- heaps that correspond, with the cells of scopes that do
pub record MadeIs (w : World) (m n : Made) : Type 0 where
  pub heap : Paired (ThingIs w) w.things m.heap n.heap
  pub cells : CellsAre w m.cells n.cells

-- functions have been made: the world has more things, and they stand behind those that were there
pub record Grown (w : World) (m n m' n' : Made) : Type 0 where
  pub world : World
  pub grows : Grows w world
  pub scopes : world.scopes ≡ w.scopes
  pub new_things : (i k : ℕ) → slice_get world.things i ≡ Some k → (slice_get w.things i ≡ Some k) ⊎ (length n.heap ≤ k)
  pub more : List (Thing Code)
  pub has : n'.heap ≡ n.heap ++ more
  pub made : MadeIs world m' n'

grown_none : (w : World) (m n : Made) → MadeIs w m n → Grown w m n m n
grown_none w m n h = record { world = w; grows = grows_same w; scopes = refl; new_things = λ i k e. inl e; more = []; has = sym (append_nil n.heap); made = h }

grown_on : (w : World) (l m a b c d : Made) (g : Grown w l m a b) → Grown g.world a b c d → Grown w l m c d
grown_on w l m a b c d g h =
    record {
      world = h.world;
      grows = grows_on w g.world h.world g.grows h.grows;
      scopes = h.scopes ∙ g.scopes;
      new_things = λ i k e. ⊎_elim (λ old. g.new_things i k old) (λ new. inr (longer k new)) (h.new_things i k e);
      more = g.more ++ h.more;
      has = h.has ∙ ap (λ heap. heap ++ h.more) g.has ∙ append_assoc m.heap g.more h.more;
      made = h.made;
    }
  where
    longer : (k : ℕ) → length b.heap ≤ k → length m.heap ≤ k
    longer k new = let long : length b.heap ≡ length (m.heap ++ g.more) = ap length g.has in omega (arith, new, long, length-append m.heap g.more)

made_function_is : (w : World) (f g : t.Code) (sc tc : List ℕ) (m n : Made) → CodeIs f g → ChainIs w sc tc → MadeIs w m n → Grown w m n (made_function f sc m) (made_function g tc n)
made_function_is w f g sc tc m n (code_is runs no_name names body) c h = grown_none w m n h
made_function_is w f g sc tc m n (code_is {kind = kind} {xs = xs} {ys = ys} {ss = ss} {ts = ts} runs (some_name x) names body) c h =
    let w' = thing_world w (length n.heap) in
    let grows = grows_thing w (length n.heap) in
    let a : Thing Code = Function (Closure kind xs ss sc v.Undefined) in
    let b : Thing Code = Function (Closure kind ys ts tc v.Undefined) in
    record {
      world = w';
      grows = grows;
      scopes = refl;
      new_things = λ i k e. ⊎_elim (λ old. inl old) (λ new. inr (omega (arith, new.1))) (get_cases w.things (length n.heap) k i e);
      more = b ∷ [];
      has = refl;
      made = record {
        heap = paired_more (ThingIs w') w.things m.heap n.heap a b (closure_is runs names body (chain_later w w' grows _ _ c) undefined_is) (paired_weaker (ThingIs w) (ThingIs w') w.things m.heap n.heap (thing_later w w' grows) h.heap);
        cells = with_cell_is w' x false _ _ m.cells n.cells (some_is (thing_is (length m.heap) (length n.heap) (paired_place (ThingIs w) w.things m.heap n.heap h.heap))) (cells_later w w' grows _ _ h.cells);
      };
    }

pub functions_is : (w : World) (ss ts : Stmts) (sc tc : List ℕ) (m n : Made) → StmtsAre ss ts → ChainIs w sc tc → MadeIs w m n → Grown w m n (with_functions ss sc m) (with_functions ts tc n)
functions_is w ss ts sc tc m n no_stmts c h = grown_none w m n h
functions_is w ss ts sc tc m n (more_stmts {ss = ss'} {ts = ts'} (fun_stmt {f = f} {g = g} d) t) c h =
    let one = made_function_is w f g sc tc m n d c h in
    grown_on w m n _ _ _ _ one (functions_is one.world ss' ts' sc tc _ _ t (chain_later w one.world one.grows _ _ c) one.made)
functions_is w ss ts sc tc m n (more_stmts (let_stmt _) t) c h = functions_is w _ _ sc tc m n t c h
functions_is w ss ts sc tc m n (more_stmts (const_stmt _) t) c h = functions_is w _ _ sc tc m n t c h
functions_is w ss ts sc tc m n (more_stmts (block_stmt _) t) c h = functions_is w _ _ sc tc m n t c h
functions_is w ss ts sc tc m n (more_stmts (if_stmt _ _ _) t) c h = functions_is w _ _ sc tc m n t c h
functions_is w ss ts sc tc m n (more_stmts (while_stmt _ _) t) c h = functions_is w _ _ sc tc m n t c h
functions_is w ss ts sc tc m n (more_stmts (do_while_stmt _ _) t) c h = functions_is w _ _ sc tc m n t c h
functions_is w ss ts sc tc m n (more_stmts (for_stmt _ _ _ _) t) c h = functions_is w _ _ sc tc m n t c h
functions_is w ss ts sc tc m n (more_stmts break_stmt t) c h = functions_is w _ _ sc tc m n t c h
functions_is w ss ts sc tc m n (more_stmts continue_stmt t) c h = functions_is w _ _ sc tc m n t c h
functions_is w ss ts sc tc m n (more_stmts (return_stmt _) t) c h = functions_is w _ _ sc tc m n t c h
functions_is w ss ts sc tc m n (more_stmts (throw_stmt _) t) c h = functions_is w _ _ sc tc m n t c h
functions_is w ss ts sc tc m n (more_stmts (try_stmt _ _ _) t) c h = functions_is w _ _ sc tc m n t c h
functions_is w ss ts sc tc m n (more_stmts (value_stmt _) t) c h = functions_is w _ _ sc tc m n t c h
functions_is w ss ts sc tc m n (more_stmts empty_stmt t) c h = functions_is w _ _ sc tc m n t c h
