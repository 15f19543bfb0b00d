-- Moves that correspond: a move of the source, and a move of the target with some steps more.
use Rattle.std.proofs.Common.{◌≡◌, ℕ, suc, ◌*◌, ◌≤◌, List, [], ◌∷◌, ◌++◌, length, refl, sym, ap, subst, arith}
use Rattle.actx_match.specs.Runs.{run}
use Rattle.actx_match.proofs.Pairing.{append_nil}
use Rattle.actx_data.specs.declared.end.End.TheVariants.{Left}
use Rattle.actx_data.specs.declared.shown.ErrorName.{ErrorName}
use Rattle.actx_data.specs.declared.trace.TraceEvent.{TraceEvent}
use Rattle.actx_data.specs.declared.value.Value.{Value}
use Rattle.actx_grammar.specs.declared.side.Side.TheVariants.{Plain}
use Rattle.actx_heap.specs.Things.{Thing, Failure}
use Rattle.actx_table.specs.Answers.{throws}
use Rattle.actx_table.specs.Forms.{first, rest}
use Rattle.actx_table.specs.Laws.{Leads, Quits, six}
use Rattle.actx_table.specs.Machine.{at, takes, step}
use Rattle.actx_table.specs.State.{Completion, Throw, Cell, Code, Task, Given, Done, Frame, Store, Move, Goes, Writes, Stops}
use Rattle.actx_table.specs.Related.{World, ValueIs, undefined_is, ValuesAre, no_values, more_values, ArgumentsAre, no_arguments, padded_arguments, more_arguments, throw_is, failure_is, Wait, ForValue, ForCompletion, ForThrow, FramesAre, Fits, fits_any, fits_throw, fits_lost, TaskIs, given_is, done_is, ScopeIs, here, away_call, away_given, away_done, away_end, StoreIs, doing_is, over_is, Related, MoveIs, goes_is, writes_is, stops_is}
use Rattle.actx_table.proofs.Same.Growth.{Grows, grows_same, grows_thing, thing_world, value_later, chain_later, frames_later, later_thing}
use Rattle.actx_table.proofs.Same.Stores.{store_thing, new_value}

-- n is how long the mapping is: the steps more are bounded by it
pub record Joins (n : ℕ) (m m' : Move) : Type 0 where
  pub count : ℕ
  pub kept : (tr : List TraceEvent) → Related (takes m tr) (run (step Plain) count (takes m' tr))
  pub within : count ≤ 1000 * suc n

pub taken : (m m' : Move) (tr : List TraceEvent) → MoveIs m m' → Related (takes m tr) (takes m' tr)
taken m m' tr (goes_is w k c store) = record { now = doing_is w k c store; trace = refl }
taken m m' tr (writes_is e w k c store) = record { now = doing_is w k c store; trace = refl }
taken m m' tr (stops_is e) = record { now = over_is e; trace = refl }

pub one : (n : ℕ) (m m' : Move) → MoveIs m m' → Joins n m m'
one n m m' h = record { count = 0; kept = λ tr. taken m m' tr h; within = omega arith }

abbrev pub landed : (n limit : ℕ) (m' : Move) (w : World) (a b : Task) (fs gs : List Frame) (s r : Store) → Leads m' limit b gs r [] → limit ≤ 1000 * suc n → TaskIs w r.heap r.scopes a fs b gs → ScopeIs w a fs s.scope s.receiver r.scope r.receiver → StoreIs w s r → Joins n (Goes a fs s) m'
landed n limit m' w a b fs gs s r l few task scope store =
    record {
      count = l.count;
      kept = λ tr. subst (Related (at a fs s tr)) (sym (l.by tr)) (record { now = doing_is w task scope store; trace = append_nil tr });
      within = let within = l.within in omega (arith, within, few);
    }

abbrev pub landed_with : (n limit : ℕ) (m' : Move) (e e' : TraceEvent) (w : World) (a b : Task) (fs gs : List Frame) (s r : Store) → e' ≡ e → Leads m' limit b gs r (e' ∷ []) → limit ≤ 1000 * suc n → TaskIs w r.heap r.scopes a fs b gs → ScopeIs w a fs s.scope s.receiver r.scope r.receiver → StoreIs w s r → Joins n (Writes e a fs s) m'
landed_with n limit m' e e' w a b fs gs s r same l few task scope store =
    record {
      count = l.count;
      kept = λ tr. subst (Related (at a fs s (tr ++ e ∷ []))) (sym (l.by tr)) (record { now = doing_is w task scope store; trace = ap (λ x. tr ++ x ∷ []) same });
      within = let within = l.within in omega (arith, within, few);
    }

pub quitted : (n limit : ℕ) (m' : Move) → Quits m' limit → limit ≤ 1000 * suc n → Joins n (Stops Left) m'
quitted n limit m' q few =
    record {
      count = q.count;
      kept = λ tr. subst (Related (takes (Stops Left) tr)) (sym (q.by tr)) (record { now = over_is Left; trace = refl });
      within = let within = q.within in omega (arith, within, few);
    }

-- SCOPES of the next task, where the receiver and the scope stay
module _ (w w' : World) (grows : Grows w w') where
  pub to_done : (d : Completion) (a : Task) (fs : List Frame) (b c : List ℕ) (x y : Value) → ScopeIs w a fs b x c y → ScopeIs w' (Done d) fs b x c y
  to_done d a fs b c x y (here h k) = here (chain_later w w' grows _ _ h) (value_later w w' grows _ _ k)
  to_done d a fs b c x y (away_call _ _ _ _) = away_done b x c y
  to_done d a fs b c x y (away_given _ _ _ _) = away_done b x c y
  to_done d a fs b c x y (away_done _ _ _ _) = away_done b x c y
  to_done d a fs b c x y (away_end _ _ _ _) = away_end b x c y

  pub to_given : (u : Value) (a : Task) (fs : List Frame) (b c : List ℕ) (x y : Value) → ScopeIs w a fs b x c y → {heap : List (Thing Code)} {scopes : List (List Cell)} {gs : List Frame} → FramesAre w heap scopes ForValue fs gs → ScopeIs w' (Given u) fs b x c y
  to_given u a fs b c x y (here h k) f = here (chain_later w w' grows _ _ h) (value_later w w' grows _ _ k)
  to_given u a fs b c x y (away_call _ _ _ _) f = away_given b x c y
  to_given u a fs b c x y (away_given _ _ _ _) f = away_given b x c y
  to_given u a fs b c x y (away_done _ _ _ _) f = away_given b x c y
  to_given u a fs b c x y (away_end _ _ _ _) f = elim f [ ]

-- VALUES IN LISTS
pub values_push : (w : World) (xs ys : List Value) (a b : Value) → ValuesAre w xs ys → ValueIs w a b → ValuesAre w (xs ++ a ∷ []) (ys ++ b ∷ [])
values_push w xs ys a b no_values h = more_values h no_values
values_push w xs ys a b (more_values k t) h = more_values k (values_push w _ _ a b t h)

module _ (w : World) where
  pub arguments_of : (xs ys : List Value) → ValuesAre w xs ys → ArgumentsAre w xs ys
  arguments_of xs ys no_values = no_arguments
  arguments_of xs ys (more_values h t) = more_arguments h (arguments_of _ _ t)

  pub first_is : (xs ys : List Value) → ArgumentsAre w xs ys → ValueIs w (first xs) (first ys)
  first_is xs ys no_arguments = undefined_is
  first_is xs ys (padded_arguments t) = undefined_is
  first_is xs ys (more_arguments h t) = h

  pub rest_is : (xs ys : List Value) → ArgumentsAre w xs ys → ArgumentsAre w (rest xs) (rest ys)
  rest_is xs ys no_arguments = no_arguments
  rest_is xs ys (padded_arguments t) = t
  rest_is xs ys (more_arguments h t) = t

  pub rest_shorter : (n : ℕ) (xs : List Value) → length xs ≤ suc n → length (rest xs) ≤ n
  rest_shorter n [] l = omega arith
  rest_shorter n (x ∷ xs) l = omega (arith, l)

  -- arguments of which the first some are handed on, where there are no more of them
  step_is : (n : ℕ) (xs ys zs : List Value) → length xs ≤ suc n → ArgumentsAre w xs ys → (length (rest xs) ≤ n → ArgumentsAre w (rest xs) zs) → ArgumentsAre w xs (first ys ∷ zs)
  step_is n xs ys zs l no_arguments k = padded_arguments (k (omega arith))
  step_is n xs ys zs l (padded_arguments t) k = padded_arguments (k (omega arith))
  step_is n xs ys zs l (more_arguments h t) k = more_arguments h (k (omega (arith, l)))

  none_left : (xs : List Value) → length xs ≤ 0 → ArgumentsAre w xs []
  none_left [] l = no_arguments
  none_left (x ∷ xs) l = absurd (omega (arith, l))

  pub six_are : (xs ys : List Value) → length xs ≤ 6 → ArgumentsAre w xs ys → ArgumentsAre w xs (six ys)
  six_are xs ys l h =
      step_is 5 _ _ _ l h (λ l1. let h1 = rest_is _ _ h in
      step_is 4 _ _ _ l1 h1 (λ l2. let h2 = rest_is _ _ h1 in
      step_is 3 _ _ _ l2 h2 (λ l3. let h3 = rest_is _ _ h2 in
      step_is 2 _ _ _ l3 h3 (λ l4. let h4 = rest_is _ _ h3 in
      step_is 1 _ _ _ l4 h4 (λ l5. let h5 = rest_is _ _ h4 in
      step_is 0 _ _ _ l5 h5 (λ l6. none_left _ l6))))))

-- THROWS
pub fits_a_throw : (wait : Wait) (a : Value) → Fits wait (Throw a)
fits_a_throw ForValue a = fits_throw a
fits_a_throw ForCompletion a = fits_any (Throw a)
fits_a_throw ForThrow a = fits_lost a

module _ (w : World) where
  pub throws_rule : (name : ErrorName) (wait : Wait) (a : Task) (fs gs : List Frame) (s r : Store) → FramesAre w r.heap r.scopes wait fs gs → ScopeIs w a fs s.scope s.receiver r.scope r.receiver → StoreIs w s r → MoveIs (throws name fs s) (throws name gs r)
  throws_rule name wait a fs gs s r f c store =
      let w' = thing_world w (length r.heap) in
      goes_is w'
      (done_is wait (fits_a_throw wait _) (throw_is (new_value w s r store)) (frames_later (later_thing w r.heap r.scopes (Failure name [])) f))
      (to_done w w' (grows_thing w (length r.heap)) _ a fs _ _ _ _ c)
      (store_thing w s r store (Failure name []) (Failure name []) (failure_is name []))

  pub gives_rule : (a b : Value) (task : Task) (fs gs : List Frame) (s r : Store) → ValueIs w a b → FramesAre w r.heap r.scopes ForValue fs gs → ScopeIs w task fs s.scope s.receiver r.scope r.receiver → StoreIs w s r → MoveIs (Goes (Given a) fs s) (Goes (Given b) gs r)
  gives_rule a b task fs gs s r h f c store = goes_is w (given_is h f) (to_given w w (grows_same w) a task fs _ _ _ _ c f) store
