-- What is kept of each step of a process, so that nothing is searched for while it is on its way.
use Rattle.std.specs.Prelude.{ℕ, ◌+◌, List, [], ◌∷◌, ◌++◌, length, map, filter, flat_map, nat_le, Option, Some, None}
use Rattle.process_tree.specs.declared.block.Block.{Block}
use Rattle.process_tree.specs.declared.play.Fallback.{Fallback}
use Rattle.process_tree.specs.declared.play.Fallback.TheVariants.{Alternative, All, Stuck}
use Rattle.process_tree.specs.declared.step.StepKind.TheVariants.{C}
use Rattle.process_tree.specs.Blocks.{outline, numbers_from}
use Rattle.process_tree.specs.Shape.{Shape, shape_of, kind_of, next_steps, least, greatest, last_of, last_commit, fixed_len}
use Rattle.process_tree.specs.Shape.{branch_to}
use Rattle.process_tree.specs.Play.{kept_prefixes, fallback_of}
use Rattle.schedule_model.specs.Course.{Course, allowance_of}
use Rattle.machine_model.specs.ProcessState.{allowance_in}
use Rattle.instance_state.specs.declared.rows.Row.{Row}

-- the steps that are done where this is the last of them
abbrev pub done_to : Shape → Option ℕ → List ℕ
done_to t None = []
done_to t (Some b) = branch_to t b ++ b ∷ []

-- the least step from this bound on that goes on from a beginning of w with all its commit points
abbrev pub way_from : Shape → List ℕ → ℕ → Option ℕ
way_from t w bound = least (filter (λ d. nat_le bound d) (flat_map (next_steps t) (kept_prefixes t w)))

-- what is kept of step b of a process of this course
abbrev pub row_in : Course → ℕ → Row
row_in c b =
    let t = c.shape in
    let w = done_to t (Some b) in
    record {
      kind = kind_of t b;
      tries = (allowance_in c b).tries;
      undo_tries = (allowance_in c b).undo_tries;
      len = length w;
      fixed = fixed_len t w;
      commit = last_commit t w;
      before = last_of (branch_to t b);
      after = least (next_steps t w);
      last_after = greatest (next_steps t w);
      other = fallback_of t (branch_to t b) b;
      way = way_from t w (b + 1);
    }

-- what is kept of step b of a process with this root
abbrev pub row_of : Block → ℕ → Row
row_of root b = row_in (record { shape = shape_of root; ops = []; keys = []; allowances = map allowance_of (outline root).steps }) b

-- the same of the first n steps
abbrev pub rows_to : Block → ℕ → List Row
rows_to root n = map (row_of root) (numbers_from 0 n)

-- where a refused step goes on
abbrev pub way_of : Fallback → Option ℕ
way_of (Alternative keep to) = Some to
way_of All = None
way_of Stuck = None

-- a row of no step
abbrev pub no_row : Row
no_row =
    record {
      kind = C;
      tries = 0;
      undo_tries = 0;
      len = 0;
      fixed = 0;
      commit = None;
      before = None;
      after = None;
      last_after = None;
      other = None;
      way = None;
    }
