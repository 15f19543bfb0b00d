-- The scopes of lists and of calls: their names and functions are there on both sides, in worlds that say where.
use Rattle.std.proofs.Common.{◌≡◌, ℕ, ◌≤◌, List, [], ◌∷◌, ◌++◌, length, Some, refl, sym, ap, ◌∙◌, subst, ◌⊎◌, inl, inr, ⊎_elim, arith}
use Rattle.std.specs.Prelude.{slice_get}
use Rattle.actx_match.specs.Pairing.{Paired}
use Rattle.actx_match.proofs.Pairing.{get_cases, paired_weaker, paired_more, paired_place}
use Rattle.actx_data.specs.declared.value.Value.{Value}
use Rattle.actx_grammar.specs.Tree.{Stmts}
use Rattle.actx_heap.specs.Things.{Thing}
use Rattle.actx_table.specs.Renamed.{NamesAre, StmtsAre}
use Rattle.actx_table.specs.Scopes.{with_names, with_params, Made, with_functions, with_made, with_list, with_call}
use Rattle.actx_table.specs.State.{Cell, Code, Store}
use Rattle.actx_table.specs.Related.{World, ValueIs, ArgumentsAre, ChainIs, more_scopes, CellsAre, no_cells, ThingIs, StoreIs}
use Rattle.actx_table.proofs.Same.Growth.{grows_on, scope_world, grows_scope, value_later, chain_later, cells_later, thing_later, Later, Adds, later_adds}
use Rattle.actx_table.proofs.Same.Declared.{with_names_is, with_params_is, Grown, functions_is}
use Rattle.actx_table.proofs.Same.Stores.{store_added}

-- both stores have entered a scope, which is a new one with the functions that were made in it
pub record Entered (w : World) (s r s' r' : Store) : Type 0 where
  pub world : World
  pub adds : Adds w world r.heap r.scopes
  pub things : List (Thing Code)
  pub cells : List (List Cell)
  pub has_things : r'.heap ≡ r.heap ++ things
  pub has_cells : r'.scopes ≡ r.scopes ++ cells
  pub store : StoreIs world s' r'
  pub chain : ChainIs world s'.scope r'.scope
  pub receiver : ValueIs world s'.receiver r'.receiver

pub entered_later : (w : World) (s r s' r' : Store) (h : Entered w s r s' r') → Later w r.heap r.scopes h.world r'.heap r'.scopes
entered_later w s r s' r' h =
    subst (λ heap. Later w r.heap r.scopes h.world heap r'.scopes) (sym h.has_things)
    (subst (λ scopes. Later w r.heap r.scopes h.world (r.heap ++ h.things) scopes) (sym h.has_cells) (later_adds w h.world r.heap h.things r.scopes h.cells h.adds))

module _ (w : World) (s r : Store) (st : StoreIs w s r) where
  -- the world with the scope, in which its functions are made
  abbrev inner : World
  inner = scope_world w (length r.scopes)

  abbrev entered_with : Store → List ℕ → Value → Made → Store
  entered_with s sc x m = record (with_made s sc m) { receiver = x }

  functions_entered : (sc tc : List ℕ) (x y : Value) (l k m n : Made) → k.heap ≡ r.heap → ChainIs inner sc tc → ValueIs w x y → Grown inner l k m n → Entered w s r (entered_with s sc x m) (entered_with r tc y n)
  functions_entered sc tc x y l k m n same c o g =
      let grows = grows_on w inner g.world (grows_scope w (length r.scopes)) g.grows in
      let adds : Adds w g.world r.heap r.scopes = record {
        grows = grows;
        new_things = λ i j e. subst (λ heap. (slice_get w.things i ≡ Some j) ⊎ (length heap ≤ j)) same (g.new_things i j e);
        new_scopes = λ i j e. ⊎_elim (λ old. inl old) (λ new. inr (omega (arith, new.1))) (get_cases w.scopes (length r.scopes) j i (ap (λ places. slice_get places i) (sym g.scopes) ∙ e));
      } in
      let has : n.heap ≡ r.heap ++ g.more = g.has ∙ ap (λ heap. heap ++ g.more) same in
      let scopes : Paired (CellsAre g.world) g.world.scopes (s.scopes ++ m.cells ∷ []) (r.scopes ++ n.cells ∷ []) =
      subst (λ places. Paired (CellsAre g.world) places (s.scopes ++ m.cells ∷ []) (r.scopes ++ n.cells ∷ [])) (sym g.scopes)
      (paired_more (CellsAre g.world) w.scopes s.scopes r.scopes m.cells n.cells g.made.cells (paired_weaker (CellsAre w) (CellsAre g.world) w.scopes s.scopes r.scopes (cells_later w g.world grows) st.scopes)) in
      record {
        world = g.world;
        adds = adds;
        things = g.more;
        cells = n.cells ∷ [];
        has_things = has;
        has_cells = refl;
        store = subst (λ heap. StoreIs g.world (entered_with s sc x m) (entered_with r tc y (record { heap = heap; cells = n.cells }))) (sym has)
            (store_added w g.world s r st adds sc tc x y m.heap g.more (s.scopes ++ m.cells ∷ []) (n.cells ∷ []) (subst (λ heap. Paired (ThingIs g.world) g.world.things m.heap heap) has g.made.heap) scopes);
        chain = chain_later inner g.world g.grows sc tc c;
        receiver = value_later w g.world grows x y o;
      }

  scope_entered : (up over : List ℕ) (x y : Value) (cs ds : List Cell) (ss ts : Stmts) → ChainIs w up over → ValueIs w x y → CellsAre w cs ds → StmtsAre ss ts → Entered w s r (entered_with s (length s.scopes ∷ up) x (with_functions ss (length s.scopes ∷ up) (record { heap = s.heap; cells = cs }))) (entered_with r (length r.scopes ∷ over) y (with_functions ts (length r.scopes ∷ over) (record { heap = r.heap; cells = ds })))
  scope_entered up over x y cs ds ss ts c o h t =
      let grows = grows_scope w (length r.scopes) in
      let l : Made = record { heap = s.heap; cells = cs } in
      let k : Made = record { heap = r.heap; cells = ds } in
      let chain : ChainIs inner (length s.scopes ∷ up) (length r.scopes ∷ over) = more_scopes (length s.scopes) (length r.scopes) (paired_place (CellsAre w) w.scopes s.scopes r.scopes st.scopes) (chain_later w inner grows up over c) in
      functions_entered _ _ x y l k _ _ refl chain o (functions_is inner ss ts _ _ l k t chain (record { heap = paired_weaker (ThingIs w) (ThingIs inner) w.things s.heap r.heap (thing_later w inner grows) st.heap; cells = cells_later w inner grows cs ds h }))

  pub list_entered : (ss ts : Stmts) → StmtsAre ss ts → ChainIs w s.scope r.scope → ValueIs w s.receiver r.receiver → Entered w s r (with_list s ss) (with_list r ts)
  list_entered ss ts t c o = scope_entered s.scope r.scope s.receiver r.receiver (with_names ss []) (with_names ts []) ss ts c o (with_names_is w ss ts [] [] t no_cells) t

  pub call_entered : (up over : List ℕ) (x y : Value) (xs ys : List (List ℕ)) (vs ws : List Value) (ss ts : Stmts) → NamesAre xs ys → ArgumentsAre w vs ws → StmtsAre ss ts → ChainIs w up over → ValueIs w x y → Entered w s r (with_call s up x xs vs ss) (with_call r over y ys ws ts)
  call_entered up over x y xs ys vs ws ss ts n a t c o =
      scope_entered up over x y (with_names ss (with_params xs vs [])) (with_names ts (with_params ys ws [])) ss ts c o (with_names_is w ss ts _ _ t (with_params_is w xs ys vs ws [] [] n a no_cells)) t
