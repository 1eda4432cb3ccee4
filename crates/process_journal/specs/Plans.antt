-- The plan that the text of a start has under a catalog.
use Rattle.std.specs.Prelude.{◌≡◌, ℕ, List, [], ◌∷◌}
use Rattle.process_tree.specs.declared.plan.Plan.{Plan}
use Rattle.process_tree.specs.declared.tree.Named.{Named}
use Rattle.process_tree.specs.Shape.{shape_of}
use Rattle.process_tree.specs.Termination.{IsWellFormed}
use Rattle.process_text.specs.Words.{words_of}
use Rattle.process_text.specs.Grammar.{process_of, IsReading}
use Rattle.process_text.specs.Canonical.{canonical_text}
use Rattle.commute_table.specs.declared.catalog.Catalog.{Catalog}
use Rattle.commute_table.specs.Binding.{IsPlanOf}

-- the text of a plan's start: the canonical one of its process
abbrev pub text_of : Plan → List ℕ
text_of p = canonical_text p.name p.tree

-- a text is read as this process alone, and is its canonical one
pub record IsTextOf (text : List ℕ) (p : Named) : Type 0 where
  pub reading : IsReading (words_of text) (p ∷ [])
  pub canonical : text ≡ canonical_text p.name p.tree

-- this is the plan of a text: the text is the canonical one of its process, the catalog has its operations by these numbers,
-- and it is well-formed
pub record IsPlanOfText (c : Catalog) (text : List ℕ) (p : Plan) : Type 0 where
  pub own_text : IsTextOf text (process_of p.name p.tree)
  pub bound : IsPlanOf (process_of p.name p.tree) c.ops p
  pub well_formed : IsWellFormed (shape_of p.tree)

-- a plan that a journal of this catalog may have: it is that of its own text
abbrev pub IsPlanUnder : Catalog → Plan → Type 0
IsPlanUnder c p = IsPlanOfText c (text_of p) p
