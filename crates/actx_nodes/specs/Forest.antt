-- WHAT A TABLE OF NODES IS READ AS. A row has the node's label and how far its parts stand behind the row after it.
use Rattle.std.specs.Prelude.{◌≡◌, ◌<◌, ℕ, ◌+◌, ◌-◌, List, [], ◌∷◌, Option, Some, None, All, length, slice_get, map, take, drop}
use Rattle.actx_grammar.specs.Tree.{Stmts}
use Rattle.actx_nodes.specs.Node.{Node, nth, stmts_in}
use Rattle.actx_nodes.specs.Build.{build}
use Rattle.actx_nodes.specs.declared.label.Head.{Head}
use Rattle.actx_nodes.specs.declared.label.Label.{Label}
use Rattle.actx_nodes.specs.declared.label.Label.TheVariants as l
use Rattle.actx_nodes.specs.declared.label.ExprLabel.TheVariants as e

-- a node's label, and its parts by their distances
pub record Entry : Type 0 where
  pub label : Label
  pub parts : List ℕ

abbrev pub entry : Label → List ℕ → Entry
entry label parts = record { label = label; parts = parts }

-- all nodes, in order
abbrev pub forest : List Entry → List Node
forest [] = []
forest (e ∷ es) = build e.label (map (nth (forest es)) e.parts) ∷ forest es

-- the nodes of a program, with the numbers of the statements of its list
pub record Table : Type 0 where
  pub rows : List Entry
  pub roots : List ℕ

abbrev pub entry_or : Option Entry → Entry
entry_or (Some e) = e
entry_or None = entry (l.Expr e.Undefined) []

abbrev pub label_or : Label → Option Entry → Label
label_or label (Some e) = e.label
label_or label None = label

abbrev pub entry_at : Table → ℕ → Entry
entry_at t n = entry_or (slice_get t.rows n)

-- the node with a number, its label, and its parts
abbrev pub node_at : Table → ℕ → Node
node_at t n = nth (forest t.rows) n

abbrev pub label_at : Table → ℕ → Label
label_at t n = (entry_at t n).label

abbrev pub parts_at : Table → ℕ → List Node
parts_at t n = map (λ d. node_at t (n + 1 + d)) (entry_at t n).parts

-- the program's list
abbrev pub roots_of : Table → List Node
roots_of t = map (node_at t) t.roots

abbrev pub body_of : Table → Stmts
body_of t = stmts_in (roots_of t)

-- FROM HEADS: each takes its parts from the front of what stands behind it
abbrev pub gathered : List Head → List Node
gathered [] = []
gathered (h ∷ hs) = build h.label (take h.parts (gathered hs)) ∷ drop h.parts (gathered hs)

-- all nodes, in order
abbrev pub built : List Head → List Node
built [] = []
built (h ∷ hs) = build h.label (take h.parts (gathered hs)) ∷ built hs

-- how far a place is from the end of so many
abbrev pub distance : ℕ → ℕ → ℕ
distance count place = count - place - 1

-- rows stand for heads, and places, counted from the end of the rows, for what is gathered of them
pub record Stands (hs : List Head) (es : List Entry) (ps : List ℕ) : Type 0 where
  pub all : forest es ≡ built hs
  pub tops : map (λ p. nth (forest es) (distance (length es) p)) ps ≡ gathered hs
  pub below : All (λ p. p < length es) ps
