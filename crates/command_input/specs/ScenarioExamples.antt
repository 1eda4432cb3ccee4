-- Worked refusals and plans of scenarios, each of which holds by computing.
use Rattle.std.specs.Prelude.{◌≡◌, refl, ℕ, List, [], ◌∷◌, Ok, true, codes}
use Rattle.std.proofs.Common.{pos}
use Rattle.std.specs.Fmt.{digits}
use Rattle.process_tree.specs.Blocks.{outline}
use Rattle.process_tree.specs.declared.step.Step.{Step}
use Rattle.process_tree.specs.declared.step.StepKind.TheVariants.{C}
use Rattle.process_tree.specs.declared.block.Tail.{End}
use Rattle.process_tree.specs.declared.tree.Named.{Named}
use Rattle.commute_table.specs.declared.op.Op.{Op}
use Rattle.commute_table.specs.declared.op.Verb.TheVariants.{Add}
use Rattle.commute_table.specs.declared.errors.ScenarioError.TheVariants.{BadToml, BadKey, UnknownOp, SameOp, Ops}
use Rattle.commute_table.specs.Binding.{numbers_bound}
use Rattle.command_refusals.specs.Refusals.{refusal_text}
use Rattle.command_input.specs.Early.{comes_before_files}
use Rattle.command_input.specs.Scenarios.{scenario_refusal, IsUnknown}

-- the operation `add` alone
abbrev pub add_alone : List Op
add_alone = record { name = codes "add"; subsystem = 0; verb = Add } ∷ []

-- a step of `add`
abbrev pub adding : List ℕ → ℕ → Step
adding name amount =
    record {
      kind = C;
      name = name;
      op = codes "add";
      key = 1;
      amount = pos amount;
      tries = 3;
      undo_tries = 3;
      refuse = 0;
      undo_refuse = 0;
    }

-- process a c x add 1 5 c y add 1 6 end
abbrev pub two_adds : Named
two_adds = record { name = codes "a"; tree = record { steps = adding (codes "x") 5 ∷ adding (codes "y") 6 ∷ []; tail = End } }

-- process a c x fly 1 5 end
abbrev pub flying : Named
flying = record {
  name = codes "a";
  tree =
      record {
        steps =
            record {
              kind = C;
              name = codes "x";
              op = codes "fly";
              key = 1;
              amount = pos 5;
              tries = 3;
              undo_tries = 3;
              refuse = 0;
              undo_refuse = 0;
            } ∷ [];
        tail = End;
      };
}

-- both steps of the first have the operation 0
pub adds_are_known : numbers_bound add_alone [] (outline two_adds.tree).steps ≡ Ok (0 ∷ 0 ∷ [])
unfolding numbers_bound
adds_are_known = refl

pub fly_is_unknown : IsUnknown add_alone flying (codes "fly")
unfolding numbers_bound
fly_is_unknown = refl

pub unknown_line : refusal_text (scenario_refusal (UnknownOp (codes "fly"))) ≡ codes "unknown operation fly"
unknown_line = refl

pub key_line : refusal_text (scenario_refusal (BadKey (codes "colour"))) ≡ codes "bad key colour"
key_line = refl

pub toml_line : refusal_text (scenario_refusal BadToml) ≡ codes "bad toml"
toml_line = refl

pub same_line : refusal_text (scenario_refusal (SameOp (codes "add"))) ≡ codes "same operation add"
same_line = refl

pub many_line : refusal_text (scenario_refusal (Ops 257)) ≡ codes "limit operations 257"
unfolding digits
many_line = refl

-- a scenario is refused before the rack is called
pub key_comes_first : comes_before_files (scenario_refusal (BadKey (codes "colour"))) ≡ true
key_comes_first = refl
