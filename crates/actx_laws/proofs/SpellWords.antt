-- The names that the grammar gives have the form of names, and so have the words of forms.
use Rattle.std.proofs.Common.{ℕ, List, [], ◌∷◌, refl, codes, All}
use Rattle.std.proofs.lemmas.List.Elements.{All-nil, All-cons}
use Rattle.actx_grammar.specs.declared.operators.Form.{Form}
use Rattle.actx_grammar.specs.declared.operators.Form.TheVariants as f
use Rattle.actx_grammar.specs.declared.operators.UnaryOp.{UnaryOp}
use Rattle.actx_grammar.specs.declared.operators.UnaryOp.TheVariants as u
use Rattle.actx_grammar.specs.declared.side.Side.{Side}
use Rattle.actx_grammar.specs.declared.token.Sign.TheVariants as g
use Rattle.actx_grammar.specs.declared.token.TokenKind.{TokenKind}
use Rattle.actx_grammar.specs.declared.token.TokenKind.TheVariants as t
use Rattle.actx_data.specs.declared.shown.ErrorName.{ErrorName}
use Rattle.actx_data.specs.declared.shown.ErrorName.TheVariants as n
use Rattle.actx_grammar.specs.Forms.{unary_word, error_text, form_words, HasWords}
use Rattle.actx_grammar.specs.Words.{IsName, HasForm}
use Rattle.actx_laws.proofs.SpellNames.{plain_name}

abbrev pub Formed : List TokenKind → Type 0
Formed [] = Unit {0}
Formed (u ∷ us) = HasForm u × Formed us

pub all_formed : (us : List TokenKind) → Formed us → All HasForm us
all_formed [] h = All-nil HasForm
all_formed (u ∷ us) h = All-cons HasForm u us h.0 (all_formed us h.1)

-- NAMES
console_name : IsName (codes "console")
console_name = plain_name 99 (codes "onsole") refl refl refl

log_name : IsName (codes "log")
log_name = plain_name 108 (codes "og") refl refl refl

error_name : IsName (codes "Error")
error_name = plain_name 69 (codes "rror") refl refl refl

type_error_name : IsName (codes "TypeError")
type_error_name = plain_name 84 (codes "ypeError") refl refl refl

range_error_name : IsName (codes "RangeError")
range_error_name = plain_name 82 (codes "angeError") refl refl refl

reference_error_name : IsName (codes "ReferenceError")
reference_error_name = plain_name 82 (codes "eferenceError") refl refl refl

queue_name : IsName (codes "queueMicrotask")
queue_name = plain_name 113 (codes "ueueMicrotask") refl refl refl

promise_name : IsName (codes "Promise")
promise_name = plain_name 80 (codes "romise") refl refl refl

resolve_name : IsName (codes "resolve")
resolve_name = plain_name 114 (codes "esolve") refl refl refl

reject_name : IsName (codes "reject")
reject_name = plain_name 114 (codes "eject") refl refl refl

context_name : IsName (codes "AsyncContext")
context_name = plain_name 65 (codes "syncContext") refl refl refl

variable_name : IsName (codes "Variable")
variable_name = plain_name 86 (codes "ariable") refl refl refl

snapshot_name : IsName (codes "Snapshot")
snapshot_name = plain_name 83 (codes "napshot") refl refl refl

wrap_name : IsName (codes "wrap")
wrap_name = plain_name 119 (codes "rap") refl refl refl

host_name : IsName (codes "Host")
host_name = plain_name 72 (codes "ost") refl refl refl

on_name : IsName (codes "on")
on_name = plain_name 111 (codes "n") refl refl refl

trace_name : IsName (codes "Trace")
trace_name = plain_name 84 (codes "race") refl refl refl

span_name : IsName (codes "span")
span_name = plain_name 115 (codes "pan") refl refl refl

current_name : IsName (codes "current")
current_name = plain_name 99 (codes "urrent") refl refl refl

weak_map_name : IsName (codes "WeakMap")
weak_map_name = plain_name 87 (codes "eakMap") refl refl refl

object_name : IsName (codes "Object")
object_name = plain_name 79 (codes "bject") refl refl refl

freeze_name : IsName (codes "freeze")
freeze_name = plain_name 102 (codes "reeze") refl refl refl

actx_name : IsName (codes "__actx")
actx_name = plain_name 95 (codes "_actx") refl refl refl

note_name : IsName (codes "note")
note_name = plain_name 110 (codes "ote") refl refl refl

leave_name : IsName (codes "leave")
leave_name = plain_name 108 (codes "eave") refl refl refl

pub call_name : IsName (codes "call")
call_name = plain_name 99 (codes "all") refl refl refl

pub of_name : IsName (codes "of")
of_name = plain_name 111 (codes "f") refl refl refl

-- WORDS OF FORMS
pair : (x y : List ℕ) → IsName x → IsName y → Formed (t.Name x ∷ t.Sign g.Dot ∷ t.Name y ∷ [])
pair x y h i = (h, (tt, (i, tt)))

error_formed : (name : ErrorName) → IsName (error_text name)
error_formed n.Error = error_name
error_formed n.TypeError = type_error_name
error_formed n.RangeError = range_error_name
error_formed n.ReferenceError = reference_error_name

pub words_formed : (side : Side) (form : Form) → HasWords side form → Formed (form_words form)
words_formed side f.Log w = pair (codes "console") (codes "log") console_name log_name
words_formed side (f.NewError name) w = (tt, (error_formed name, tt))
words_formed side f.QueueMicrotask w = (queue_name, tt)
words_formed side f.NewPromise w = (tt, (promise_name, tt))
words_formed side f.PromiseResolve w = pair (codes "Promise") (codes "resolve") promise_name resolve_name
words_formed side f.PromiseReject w = pair (codes "Promise") (codes "reject") promise_name reject_name
words_formed side f.NewVariable w = (tt, pair (codes "AsyncContext") (codes "Variable") context_name variable_name)
words_formed side f.NewSnapshot w = (tt, pair (codes "AsyncContext") (codes "Snapshot") context_name snapshot_name)
words_formed side f.Wrap w = (context_name, (tt, pair (codes "Snapshot") (codes "wrap") snapshot_name wrap_name))
words_formed side f.HostOn w = pair (codes "Host") (codes "on") host_name on_name
words_formed side f.Span w = pair (codes "Trace") (codes "span") trace_name span_name
words_formed side f.CurrentSpan w = pair (codes "Trace") (codes "current") trace_name current_name
words_formed side f.NewWeakMap w = (tt, (weak_map_name, tt))
words_formed side f.Freeze w = pair (codes "Object") (codes "freeze") object_name freeze_name
words_formed side f.Note w = pair (codes "__actx") (codes "note") actx_name note_name
words_formed side f.On w = pair (codes "__actx") (codes "on") actx_name on_name
words_formed side f.Leave w = pair (codes "__actx") (codes "leave") actx_name leave_name
words_formed side _ w = tt

pub unary_formed : (op : UnaryOp) → HasForm (unary_word op)
unary_formed u.Not = tt
unary_formed u.Minus = tt
unary_formed u.Typeof = tt
unary_formed u.Void = tt
