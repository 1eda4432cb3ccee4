-- Worked scenarios, computed.
use Rattle.std.specs.Prelude.{[], Some, codes, refl}
use Rattle.std.proofs.Common.{inl, inr, arith}
use Rattle.driver_input.specs.declared.parts.Part.TheVariants.{Line, Mark, End}
use Rattle.driver_input.specs.Parts.{IsPartOf}
use Rattle.driver_input.specs.Preamble.{IsScenarioTaken}

-- a line comes to the scenario with its line feed, and what stands behind it is left
pub a_line : IsPartOf (codes "version = 1\n%%\nnext") (codes "%%\nnext") [] (codes "version = 1\n") Line
a_line = (codes "version = 1", refl, refl, refl)

pub the_mark : IsPartOf (codes "%%\nnext") (codes "next") (codes "version = 1\n") (codes "version = 1\n") Mark
the_mark = (codes "%%", refl, refl, refl)

-- a last line without its line feed is of the scenario, but for a mark
pub a_last_line : IsPartOf (codes "b = 2") [] (codes "a = 1\n") (codes "a = 1\nb = 2") End
a_last_line = (refl, refl, refl)

pub a_last_mark : IsPartOf (codes "%%") [] (codes "a = 1\n") (codes "a = 1\n") End
a_last_mark = (refl, refl, refl)

-- what the source gave behind the mark stands ready
pub a_preamble : IsScenarioTaken (Some (codes "a = 1\n%%\nnext\nstop\n")) (Some (codes "op\n")) (codes "a = 1\n")
    (codes "next\nst") 3
a_preamble = record {
  bytes = codes "a = 1\n%%\nnext\nst";
  taken = refl;
  scenario_is = refl;
  whole = refl;
  within = omega arith;
  behind = inl (2, refl, refl);
}

-- and without a mark all is the scenario
pub no_mark : IsScenarioTaken (Some (codes "a = 1\n")) (Some []) (codes "a = 1\n") [] 2
no_mark = record {
  bytes = codes "a = 1\n";
  taken = refl;
  scenario_is = refl;
  whole = refl;
  within = omega arith;
  behind = inr (refl, refl);
}
