-- Equal plans have one text, wherever their trees lie in memory.
use Rattle.std.proofs.Common.{◌≡◌, ◌∙◌, ℕ, true, List, [], ◌∷◌, ◌++◌, length, map, Ok, refl, ap, subst, sym}
use Rattle.process_tree.specs.Blocks.{Outline}
use Rattle.process_tree.specs.Order.{Each}
use Rattle.process_tree.specs.Form.{AreEqualPlans, Form, Forms, ending, choosing, no_forms, more_forms, form_at, forms_at}
use Rattle.process_tree.specs.Making.{outline_fault}
use Rattle.process_tree.specs.Termination.{IsWellFormed}
use Rattle.process_tree.specs.declared.step.Step.{Step}
use Rattle.process_tree.specs.declared.block.Tail.{Tail, End, Choice', Row_of-Block, end_of-Block, more_of-Block}
use Rattle.process_tree.specs.declared.plan.Plan.{Plan}
use Rattle.text_words.specs.declared.marks.Mark.TheVariants as marks
use Rattle.process_text.specs.Canonical.{canonical_words, line_of}
use Rattle.process_text.specs.Grammar.{IsReading, Piece, Writes, alternatives, are_new, mark, pieces_in, pieces_of, process, process_of, process_pieces, step_pieces}
use Rattle.process_text.specs.Words.{words_of}
use Rattle.commute_table.specs.declared.catalog.Catalog.{Catalog}
use Rattle.commute_table.specs.declared.errors.BindError.{BindError}
use Rattle.commute_table.specs.Binding.{numbers_bound}
use Rattle.std.specs.Prelude.{Result}
use Rattle.process_journal.specs.Plans.{IsPlanUnder, text_of}

-- the pieces of a block of this form
abbrev mutual
  pieces_by : Form → List Piece
  pieces_by (ending steps) = step_pieces steps
  pieces_by (choosing steps fs) = step_pieces steps ++ mark marks.Choose ∷ alternatives (pieces_all fs)

  pieces_all : Forms → List (List Piece)
  pieces_all no_forms = []
  pieces_all (more_forms f fs) = pieces_by f ∷ pieces_all fs

mutual
  pieces_so : (steps : List Step) (tail : Tail) → pieces_of steps tail ≡ pieces_by (form_at steps tail)
  pieces_so steps End = refl
  pieces_so steps (Choice' shape blocks) = ap (λ bs. step_pieces steps ++ mark marks.Choose ∷ alternatives bs) (rows_so blocks)

  rows_so : {m : _} (blocks : Row_of-Block m) → pieces_in blocks ≡ pieces_all (forms_at blocks)
  rows_so end_of-Block = refl
  rows_so (more_of-Block steps tail rest) = ap (λ p. p ∷ pieces_in rest) (pieces_so steps tail) ∙ ap (λ ps. pieces_by (form_at steps tail) ∷ ps) (rows_so rest)

-- equal plans are written by the same pieces,
same_pieces : (p q : Plan) → AreEqualPlans p q → process_pieces (process_of p.name p.tree) ≡ process_pieces (process_of q.name q.tree)
same_pieces p q same =
    let blocks = pieces_so p.tree.steps p.tree.tail ∙ (ap pieces_by same.tree ∙ sym (pieces_so q.tree.steps q.tree.tail)) in
    ap (λ n. process n ∷ pieces_of p.tree.steps p.tree.tail ++ mark marks.End ∷ []) same.name ∙ ap (λ ps. process q.name ∷ ps ++ mark marks.End ∷ []) blocks

-- so they have one text,
pub same_text : (p q : Plan) → AreEqualPlans p q → text_of p ≡ text_of q
same_text p q same = ap (λ ps. line_of (canonical_words ps)) (same_pieces p q same)

-- and a journal may have the one where it may have the other.
pub same_plan : (c : Catalog) (p q : Plan) → AreEqualPlans p q → IsPlanUnder c p → IsPlanUnder c q
same_plan c p q same under =
    let reading = under.own_text.reading in
    record {
      own_text = record {
        reading = subst (λ t. IsReading (words_of t) (process_of q.name q.tree ∷ [])) (same_text p q same) (record {
          written = subst (λ ps. Writes (ps ++ []) (words_of (text_of p)) []) (same_pieces p q same) reading.written;
          few = reading.few;
          different = subst (λ n. are_new [] (n ∷ []) ≡ true) same.name reading.different;
          trees = (ap outline_fault (sym same.says) ∙ reading.trees.0, tt);
        });
        canonical = refl;
      };
      bound = record {
        name = refl;
        tree = refl;
        numbers = ap (λ (o : Outline). numbers_bound c.ops [] o.steps) (sym same.says) ∙ (under.bound.numbers ∙ ap (λ ops. let r : Result (List ℕ) BindError = Ok ops in r) same.ops);
        count = ap length (sym same.ops) ∙ (under.bound.count ∙ ap (λ (o : Outline). length o.steps) same.says);
        within = subst (Each _) same.ops under.bound.within;
      };
      well_formed = subst IsWellFormed (ap (λ (o : Outline). record { kinds = map (λ (s : Step). s.kind) o.steps; paths = o.paths }) same.says) under.well_formed;
    }
