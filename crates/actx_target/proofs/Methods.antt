-- Calls by what the code takes of things and arguments.
use Rattle.std.proofs.Common.{◌≡◌, ℕ, List, [], ◌∷◌, Option, Some, None, refl, sym, ap}
use Rattle.actx_data.specs.declared.shown.ErrorName.TheVariants.{TypeError}
use Rattle.actx_data.specs.declared.value.Value.{Value}
use Rattle.actx_data.specs.declared.value.Value.TheVariants as v
use Rattle.actx_grammar.specs.declared.side.Side.TheVariants.{Plain}
use Rattle.actx_rules.specs.State as m
use Rattle.actx_rules.specs.Machine.{weak_gets, weak_sets, call_thing, answered, throws}
use Rattle.actx_target.specs.MethodView.{called, weak_answer, set_entry, entry_set, weak_put, argument}

pub call_called : (o : Option m.Thing) (r : Value) (vs : List Value) (fs : List m.Frame) (s : m.Store) → call_thing Plain o r vs fs s ≡ call_thing Plain (called o) r vs fs s
call_called None r vs fs s = refl
call_called (Some (m.Closure kind xs ss scope kept)) r vs fs s = refl
call_called (Some (m.Native method)) r vs fs s = refl
call_called (Some (m.Plain ps)) r vs fs s = refl
call_called (Some (m.Listed ps)) r vs fs s = refl
call_called (Some (m.Failure name message)) r vs fs s = refl
call_called (Some (m.Weak es)) r vs fs s = refl

pub weak_gets_is : (o : Option m.Thing) (vs : List Value) (fs : List m.Frame) (s : m.Store) → weak_gets o vs fs s ≡ answered (weak_answer o vs) fs s
weak_gets_is None vs fs s = refl
weak_gets_is (Some (m.Weak es)) [] fs s = refl
weak_gets_is (Some (m.Weak es)) (a ∷ vs) fs s = refl
weak_gets_is (Some (m.Closure kind xs ss scope kept)) vs fs s = refl
weak_gets_is (Some (m.Native method)) vs fs s = refl
weak_gets_is (Some (m.Plain ps)) vs fs s = refl
weak_gets_is (Some (m.Listed ps)) vs fs s = refl
weak_gets_is (Some (m.Failure name message)) vs fs s = refl

-- where there is no WeakMap, every key is refused
refused : (o : Option m.Thing) (w : ℕ) (a b : Value) (fs : List m.Frame) (s : m.Store) → ((k : ℕ) → weak_put o s.heap w k b ≡ None) → throws TypeError fs s ≡ set_entry o w a b fs s
refused o w v.Undefined b fs s h = refl
refused o w v.Null b fs s h = refl
refused o w (v.Truth t) b fs s h = refl
refused o w (v.Num n) b fs s h = refl
refused o w (v.Text u) b fs s h = refl
refused o w (v.Thing k) b fs s h = sym (ap (λ p. entry_set p w fs s) (h k))

pub weak_sets_is : (o : Option m.Thing) (w : ℕ) (vs : List Value) (fs : List m.Frame) (s : m.Store) → weak_sets o w vs fs s ≡ set_entry o w (argument vs 0) (argument vs 1) fs s
weak_sets_is None w vs fs s = refused None w (argument vs 0) (argument vs 1) fs s (λ k. refl)
weak_sets_is (Some (m.Weak es)) w [] fs s = refl
weak_sets_is (Some (m.Weak es)) w (v.Undefined ∷ vs) fs s = refl
weak_sets_is (Some (m.Weak es)) w (v.Null ∷ vs) fs s = refl
weak_sets_is (Some (m.Weak es)) w (v.Truth t ∷ vs) fs s = refl
weak_sets_is (Some (m.Weak es)) w (v.Num n ∷ vs) fs s = refl
weak_sets_is (Some (m.Weak es)) w (v.Text u ∷ vs) fs s = refl
weak_sets_is (Some (m.Weak es)) w (v.Thing k ∷ []) fs s = refl
weak_sets_is (Some (m.Weak es)) w (v.Thing k ∷ (b ∷ vs)) fs s = refl
weak_sets_is (Some (m.Closure kind xs ss scope kept)) w vs fs s = refused (Some (m.Closure kind xs ss scope kept)) w (argument vs 0) (argument vs 1) fs s (λ k. refl)
weak_sets_is (Some (m.Native method)) w vs fs s = refused (Some (m.Native method)) w (argument vs 0) (argument vs 1) fs s (λ k. refl)
weak_sets_is (Some (m.Plain ps)) w vs fs s = refused (Some (m.Plain ps)) w (argument vs 0) (argument vs 1) fs s (λ k. refl)
weak_sets_is (Some (m.Listed ps)) w vs fs s = refused (Some (m.Listed ps)) w (argument vs 0) (argument vs 1) fs s (λ k. refl)
weak_sets_is (Some (m.Failure name message)) w vs fs s = refused (Some (m.Failure name message)) w (argument vs 0) (argument vs 1) fs s (λ k. refl)
