-- The documents of a generated specification of `size` entities: pairs of a name and bytes, in their order on the shelf.
use Rattle.std.specs.Prelude.{ℕ, List, [], ◌∷◌, ◌++◌, codes}
use Rattle.trial_documents.specs.declared.table.Table.TheVariants.{Items, Views, Given, Copies, Asked}
use Rattle.trial_documents.specs.Tables.{table_text}

-- the text of the specification
unfoldable pub specification_text : List ℕ
specification_text =
    codes "relation item from \"item.csv\" row id entity eid (a: int, b: int, c: int);\n"
    ++ codes "relation view from \"view.csv\" row id entity eid (d: int);\n"
    ++ codes "orders item from \"given.csv\";\n"
    ++ codes "rule mono on item (s, t): if s.a < t.a then s before t in a;\n"
    ++ codes "rule follow on item (s, t): if s before t in b then s before t in c;\n"
    ++ codes "copy mirror into view (d) from item (c) using \"copy.csv\";\n"

-- the specification
abbrev pub specification : List (List ℕ × List ℕ)
specification = (codes "spec", specification_text) ∷ []

-- the tables that the specification names, and the pairs to ask about
unfoldable pub tables : ℕ → List (List ℕ × List ℕ)
tables size =
    (codes "item.csv", table_text Items size)
    ∷ (codes "view.csv", table_text Views size)
    ∷ (codes "given.csv", table_text Given size)
    ∷ (codes "copy.csv", table_text Copies size)
    ∷ (codes "asked.csv", table_text Asked size)
    ∷ []

-- a question of each kind
unfoldable pub questions : List (List ℕ × List ℕ)
questions =
    (codes "q1", codes "consistent;\n")
    ∷ (codes "q2", codes "certain orders item from \"asked.csv\";\n")
    ∷ (codes "q3", codes "same item, view;\n")
    ∷ (codes "q4", codes "answers (e, x, y) where item(e, 3, x, _) and view(e, y);\n")
    ∷ []

-- all of them
abbrev pub documents : ℕ → List (List ℕ × List ℕ)
documents size = specification ++ tables size ++ questions
