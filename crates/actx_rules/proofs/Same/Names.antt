-- Names of the program stand for the same cells, whatever they are called, and none of them is one of the prelude's.
use Rattle.std.proofs.Common.{◌≡◌, ℕ, Bool, true, false, List, [], ◌∷◌, Option, Some, None, refl, sym, ap, ◌∙◌, subst, ◌⊎◌, inl, inr, ⊎_elim}
use Rattle.std.specs.Prelude.{if◌then◌else◌, slice_get, slice_set, codes}
use Rattle.std.proofs.lemmas.Bool.{cases_eq}
use Rattle.actx_match.specs.Pairing.{Paired}
use Rattle.actx_match.proofs.Pairing.{paired_set, get_set_same, get_set_other}
use Rattle.actx_data.specs.declared.value.Value.{Value}
use Rattle.actx_data.specs.declared.value.Value.TheVariants as v
use Rattle.actx_rules.specs.Texts.{same_text}
use Rattle.actx_grammar.specs.Tree.{ConstItems, Stmts}
use Rattle.actx_rules.specs.Low.{p_}
use Rattle.actx_rules.specs.Prelude.{name_variable}
use Rattle.actx_rules.specs.State.{Cell, cell_of, or_else, option_or, cells_at, find, given_cell, set_cell, set_in, with_cell, with_items, with_names, with_params}
use Rattle.actx_rules.specs.Related.{World, NamesAre, no_names, more_names, ItemsAre, no_items_are, more_items, const_stmt, value_stmt, return_stmt, return_nothing_stmt, StmtsAre, no_stmts, more_stmts, ValueIs, undefined_is, OptionIs, none_is, some_is, ArgumentsAre, no_arguments, padded_arguments, more_arguments, ChainIs, last_scope, more_scopes, IsOwn, CellsAre, no_cells, more_cells, own_cell, constant_at, IsBase, TopIs}

-- a cell that both find, or neither
pub data FoundIs (w : World) : Option Cell → Option Cell → Type 0 where
  not_found : FoundIs w None None
  found : (x : List ℕ) (constant : Bool) {a b : Option Value} → OptionIs w a b → FoundIs w (Some (record { name = x; value = a; constant = constant })) (Some (record { name = p_ x; value = b; constant = constant }))

-- a cell of the prelude's has none of the program's names
own_other : (x : List ℕ) (d : Cell) → IsOwn d → same_text (p_ x) d.name ≡ false
own_other x d own = ap (same_text (p_ x)) own.begins

pub if_false : {A : Type 0} (b : Bool) (x y : A) → b ≡ false → (if b then x else y) ≡ y
if_false b x y e = ap (λ b. if b then x else y) e

module _ (w : World) where
  found_if : (b : Bool) (c d e f : Option Cell) → FoundIs w c d → FoundIs w e f → FoundIs w (if b then c else e) (if b then d else f)
  found_if true c d e f h k = h
  found_if false c d e f h k = k

  found_else : (a b c d : Option Cell) → FoundIs w a b → FoundIs w c d → FoundIs w (or_else a c) (or_else b d)
  found_else a b c d not_found k = k
  found_else a b c d (found x constant h) k = found x constant h

  pub cell_of_is : (x : List ℕ) (cs ds : List Cell) → CellsAre w cs ds → FoundIs w (cell_of x cs) (cell_of (p_ x) ds)
  cell_of_is x cs ds no_cells = not_found
  cell_of_is x cs ds (more_cells y constant h t) = found_if (same_text x y) _ _ _ _ (found y constant h) (cell_of_is x _ _ t)
  cell_of_is x cs ds (own_cell d {ds = ds'} own t) = subst (FoundIs w (cell_of x cs)) (sym (if_false (same_text (p_ x) d.name) (Some d) (cell_of (p_ x) ds') (own_other x d own))) (cell_of_is x cs ds' t)

  pub cells_at_is : (ss ts : List (List Cell)) (k j : ℕ) → slice_get w.scopes k ≡ Some j → Paired (CellsAre w) w.scopes ss ts → CellsAre w (cells_at ss k) (cells_at ts j)
  cells_at_is ss ts k j e h =
      let p = h.pair k j e in
      subst (λ o. CellsAre w (option_or o []) (cells_at ts j)) (sym p.2) (subst (λ o. CellsAre w p.0 (option_or o [])) (sym p.3) p.4)

  pub find_is : (ss ts : List (List Cell)) → Paired (CellsAre w) w.scopes ss ts → (x : List ℕ) (ks js : List ℕ) → ChainIs w ks js → FoundIs w (find ss ks x) (find ts js (p_ x))
  find_is ss ts h x ks js (last_scope k e) = found_else (cell_of x (cells_at ss k)) (cell_of (p_ x) (cells_at ts 0)) None None (cell_of_is x _ _ (cells_at_is ss ts k 0 e h)) not_found
  find_is ss ts h x ks js (more_scopes k j {ks = ks'} {js = js'} e t) =
      found_else (cell_of x (cells_at ss k)) (cell_of (p_ x) (cells_at ts j)) (find ss ks' x) (find ts js' (p_ x)) (cell_of_is x _ _ (cells_at_is ss ts k j e h)) (find_is ss ts h x _ _ t)

  -- THE PRELUDE'S FUNCTION is found under its name from every scope of the program
  variable_in : (cs ds : List Cell) → CellsAre w cs ds → (cell_of name_variable ds ≡ None) ⊎ (cell_of name_variable ds ≡ constant_at name_variable 9)
  variable_in cs ds no_cells = inl refl
  variable_in cs ds (more_cells x constant h t) = variable_in _ _ t
  variable_in cs ds (own_cell d {ds = ds'} own t) = ⊎_elim
      (λ other. let z = if_false (same_text name_variable d.name) (Some d) (cell_of name_variable ds') other in ⊎_elim (λ e. inl (z ∙ e)) (λ e. inr (z ∙ e)) (variable_in cs ds' t))
      (λ same. inr (here d (cell_of name_variable ds') same))
      own.calls
    where
      here : (d : Cell) (o : Option Cell) → Some d ≡ constant_at name_variable 9 → (if same_text name_variable d.name then Some d else o) ≡ constant_at name_variable 9
      here d o e = let q : d ≡ record { name = name_variable; value = Some (v.Thing 9); constant = true } = cc in ap (λ c. if same_text name_variable c.name then Some c else o) q

  pub find_variable : (ss ts : List (List Cell)) → Paired (CellsAre w) w.scopes ss ts → TopIs ts → (ks js : List ℕ) → ChainIs w ks js → find ts js name_variable ≡ constant_at name_variable 9
  find_variable ss ts h top ks js (last_scope k e) = ap (λ o. or_else (cell_of name_variable (option_or o [])) None) top.has ∙ ap (λ o. or_else o None) top.base.variable
  find_variable ss ts h top ks js (more_scopes k j {js = js'} e t) =
      ⊎_elim
      (λ none. ap (λ o. or_else o (find ts js' name_variable)) none ∙ find_variable ss ts h top _ js' t)
      (λ some. ap (λ o. or_else o (find ts js' name_variable)) some)
      (variable_in _ _ (cells_at_is ss ts k j e h))

  -- GIVING A VALUE
  cells_if : (b : Bool) (c d e f : List Cell) → CellsAre w c d → CellsAre w e f → CellsAre w (if b then c else e) (if b then d else f)
  cells_if true c d e f h k = h
  cells_if false c d e f h k = k

  given_cell_is : (x : List ℕ) (constant : Bool) (a b : Value) (o p : Option Value) (cs ds : List Cell) → ValueIs w a b → OptionIs w o p → CellsAre w cs ds → CellsAre w (given_cell a (record { name = x; value = o; constant = constant }) o ∷ cs) (given_cell b (record { name = p_ x; value = p; constant = constant }) p ∷ ds)
  given_cell_is x constant a b o p cs ds h none_is t = more_cells x constant (some_is h) t
  given_cell_is x true a b o p cs ds h (some_is k) t = more_cells x true (some_is k) t
  given_cell_is x false a b o p cs ds h (some_is k) t = more_cells x false (some_is h) t

  pub set_cell_is : (x : List ℕ) (a b : Value) (cs ds : List Cell) → ValueIs w a b → CellsAre w cs ds → CellsAre w (set_cell x a cs) (set_cell (p_ x) b ds)
  set_cell_is x a b cs ds h no_cells = no_cells
  set_cell_is x a b cs ds h (more_cells y constant {a = o} {b = p} {cs = cs'} {ds = ds'} k t) =
      cells_if (same_text x y) _ _ _ _ (given_cell_is y constant a b o p cs' ds' h k t) (more_cells y constant k (set_cell_is x a b _ _ h t))
  set_cell_is x a b cs ds h (own_cell d {ds = ds'} own t) = subst (CellsAre w (set_cell x a cs)) (sym (if_false (same_text (p_ x) d.name) (given_cell b d d.value ∷ ds') (d ∷ set_cell (p_ x) b ds') (own_other x d own))) (own_cell d own (set_cell_is x a b cs ds' h t))

  -- DECLARING
  pub with_cell_is : (x : List ℕ) (constant : Bool) (a b : Option Value) (cs ds : List Cell) → OptionIs w a b → CellsAre w cs ds → CellsAre w (with_cell (record { name = x; value = a; constant = constant }) cs) (with_cell (record { name = p_ x; value = b; constant = constant }) ds)
  with_cell_is x constant a b cs ds h no_cells = more_cells x constant h no_cells
  with_cell_is x constant a b cs ds h (more_cells y c k t) = cells_if (same_text x y) _ _ _ _ (more_cells y constant h t) (more_cells y c k (with_cell_is x constant a b _ _ h t))
  with_cell_is x constant a b cs ds h (own_cell d {ds = ds'} own t) =
      let c : Cell = record { name = p_ x; value = b; constant = constant } in
      subst (CellsAre w (with_cell (record { name = x; value = a; constant = constant }) cs)) (sym (if_false (same_text (p_ x) d.name) (record { name = d.name; value = b; constant = constant } ∷ ds') (d ∷ with_cell c ds') (own_other x d own))) (own_cell d own (with_cell_is x constant a b cs ds' h t))

  with_items_is : (is js : ConstItems) (cs ds : List Cell) → ItemsAre is js → CellsAre w cs ds → CellsAre w (with_items is cs) (with_items js ds)
  with_items_is is js cs ds no_items_are h = h
  with_items_is is js cs ds (more_items x e t) h = with_items_is _ _ _ _ t (with_cell_is x true None None cs ds none_is h)

  pub with_names_is : (ss ts : Stmts) (cs ds : List Cell) → StmtsAre ss ts → CellsAre w cs ds → CellsAre w (with_names ss cs) (with_names ts ds)
  with_names_is ss ts cs ds no_stmts h = h
  with_names_is ss ts cs ds (more_stmts (const_stmt is) t) h = with_names_is _ _ _ _ t (with_items_is _ _ cs ds is h)
  with_names_is ss ts cs ds (more_stmts (value_stmt e) t) h = with_names_is _ _ _ _ t h
  with_names_is ss ts cs ds (more_stmts (return_stmt e) t) h = with_names_is _ _ _ _ t h
  with_names_is ss ts cs ds (more_stmts return_nothing_stmt t) h = with_names_is _ _ _ _ t h

  -- parameters: missing arguments are undefined
  pub with_params_is : (xs ys : List (List ℕ)) (vs ws : List Value) (cs ds : List Cell) → NamesAre xs ys → ArgumentsAre w vs ws → CellsAre w cs ds → CellsAre w (with_params xs vs cs) (with_params ys ws ds)
  with_params_is xs ys vs ws cs ds no_names h k = k
  with_params_is xs ys vs ws cs ds (more_names x n) no_arguments k = with_params_is _ _ [] [] _ _ n no_arguments (with_cell_is x false _ _ cs ds (some_is undefined_is) k)
  with_params_is xs ys vs ws cs ds (more_names x n) (padded_arguments h) k = with_params_is _ _ [] _ _ _ n h (with_cell_is x false _ _ cs ds (some_is undefined_is) k)
  with_params_is xs ys vs ws cs ds (more_names x n) (more_arguments a h) k = with_params_is _ _ _ _ _ _ n h (with_cell_is x false _ _ cs ds (some_is a) k)

  -- THE PROGRAM'S OWN SCOPE: the prelude's constants stay what they are
  own_stays : (more x : List ℕ) (b : Value) (cs ds : List Cell) → CellsAre w cs ds → cell_of (95 ∷ more) (set_cell (p_ x) b ds) ≡ cell_of (95 ∷ more) ds
  own_stays more x b cs ds no_cells = refl
  own_stays more x b cs ds (more_cells y constant {b = o} {cs = cs'} {ds = ds'} h t) = by (own_stays more x b cs' ds' t) (same_text x y) o constant
    where
      by : cell_of (95 ∷ more) (set_cell (p_ x) b ds') ≡ cell_of (95 ∷ more) ds' → (equal : Bool) (o : Option Value) (constant : Bool) → (let c : Cell = record { name = p_ y; value = o; constant = constant } in cell_of (95 ∷ more) (if equal then given_cell b c o ∷ ds' else c ∷ set_cell (p_ x) b ds') ≡ cell_of (95 ∷ more) ds')
      by more_same true None constant = refl
      by more_same true (Some z) true = refl
      by more_same true (Some z) false = refl
      by more_same false o constant = more_same
  own_stays more x b cs ds (own_cell d {ds = ds'} own t) =
      ap (cell_of (95 ∷ more)) (if_false (same_text (p_ x) d.name) (given_cell b d d.value ∷ ds') (d ∷ set_cell (p_ x) b ds') (own_other x d own)) ∙ ap (λ o. if same_text (95 ∷ more) d.name then Some d else o) (own_stays more x b _ ds' t)

  base_stays : (x : List ℕ) (b : Value) (cs ds : List Cell) → CellsAre w cs ds → IsBase ds → IsBase (set_cell (p_ x) b ds)
  base_stays x b cs ds h base =
      record {
        states = own_stays (codes "_states") x b cs ds h ∙ base.states;
        now = own_stays (codes "_now") x b cs ds h ∙ base.now;
        find = own_stays (codes "_find") x b cs ds h ∙ base.find;
        with = own_stays (codes "_with") x b cs ds h ∙ base.with;
        get = own_stays (codes "_get") x b cs ds h ∙ base.get;
        run = own_stays (codes "_run") x b cs ds h ∙ base.run;
        make = own_stays (codes "_make") x b cs ds h ∙ base.make;
        variable = own_stays (codes "_variable") x b cs ds h ∙ base.variable;
      }

  -- a name of an innermost scope has got its value
  pub record SetIs (ss ts : List (List Cell)) (ks js : List ℕ) (x : List ℕ) (a b : Value) : Type 0 where
    pub scopes : Paired (CellsAre w) w.scopes (set_in ss ks x a) (set_in ts js (p_ x) b)
    pub top : TopIs (set_in ts js (p_ x) b)
    pub place : ℕ
    pub at : ℕ
    pub cells : List Cell
    pub paired : slice_get w.scopes place ≡ Some at
    pub same : set_in ts js (p_ x) b ≡ slice_set ts at cells

  top_stays : (x : List ℕ) (b : Value) (ts : List (List Cell)) (j : ℕ) (cs : List Cell) → CellsAre w cs (cells_at ts j) → TopIs ts → TopIs (slice_set ts j (set_cell (p_ x) b (cells_at ts j)))
  top_stays x b ts j cs h top = ⊎_elim
      (λ same.
      let ds = top.cells in
      let here : cells_at ts j ≡ ds = ap (λ i. cells_at ts i) same ∙ ap (λ o. option_or o []) top.has in
      record {
        cells = set_cell (p_ x) b (cells_at ts j);
        has = subst (λ i. slice_get (slice_set ts i (set_cell (p_ x) b (cells_at ts j))) 0 ≡ Some (set_cell (p_ x) b (cells_at ts j))) (sym same) (get_set_same ts 0 ds _ top.has);
        base = base_stays x b cs (cells_at ts j) h (subst IsBase (sym here) top.base);
      })
      (λ other. record { cells = top.cells; has = get_set_other ts j 0 _ (λ e. other (sym e)) ∙ top.has; base = top.base })
      (cases_eq j 0)

  set_at : (ss ts : List (List Cell)) (x : List ℕ) (a b : Value) (k j : ℕ) (ks js : List ℕ) → slice_get w.scopes k ≡ Some j → ValueIs w a b → Paired (CellsAre w) w.scopes ss ts → TopIs ts → SetIs ss ts (k ∷ ks) (j ∷ js) x a b
  set_at ss ts x a b k j ks js e h p top =
      let cells = cells_at_is ss ts k j e p in
      record {
        scopes = paired_set (CellsAre w) w.scopes ss ts k j (set_cell x a (cells_at ss k)) (set_cell (p_ x) b (cells_at ts j)) e (set_cell_is x a b _ _ h cells) p;
        top = top_stays x b ts j (cells_at ss k) cells top;
        place = k;
        at = j;
        cells = set_cell (p_ x) b (cells_at ts j);
        paired = e;
        same = refl;
      }

  pub set_in_is : (ss ts : List (List Cell)) (x : List ℕ) (a b : Value) (ks js : List ℕ) → ChainIs w ks js → ValueIs w a b → Paired (CellsAre w) w.scopes ss ts → TopIs ts → SetIs ss ts ks js x a b
  set_in_is ss ts x a b ks js (last_scope k e) h p top = set_at ss ts x a b k 0 [] [] e h p top
  set_in_is ss ts x a b ks js (more_scopes k j {ks = ks'} {js = js'} e t) h p top = set_at ss ts x a b k j ks' js' e h p top
