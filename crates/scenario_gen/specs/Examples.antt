-- Worked draws and texts, computed.
use Rattle.std.specs.Prelude.{◌≡◌, ◌/◌, [], ◌∷◌, ◌++◌, codes, map, refl}
use Rattle.std.specs.Fn.{iterate}
use Rattle.std.specs.Fmt.{digits}
use Rattle.scenario_gen.specs.Draws.{draws_of, first_number, next_number}
use Rattle.scenario_gen.specs.Generated.{first_steps_text, first_way_text, generated, last_way_text, process_text, processes_text}
use Rattle.scenario_gen.specs.Generated.{tail_text}

-- the first numbers of the generator behind 1, without their last 16 bits
pub first_numbers : map (λ n. iterate next_number n (first_number 1) / 65536) (1 ∷ 2 ∷ 3 ∷ 4 ∷ [])
    ≡ 16838 ∷ 5758 ∷ 10113 ∷ 17515 ∷ []
first_numbers = refl

-- what is drawn of them
pub first_draws : draws_of 1 1 ≡ record { operation = 2; key = 14; amount = 13; refusal = 3 }
first_draws = refl

-- the next process has the next four draws
pub draws_of_the_tenth : draws_of 1 10 ≡ record { operation = 1; key = 5; amount = 61; refusal = 0 }
draws_of_the_tenth = refl

-- of NUMBER the last 31 bits count
pub of_64_bits : first_number 18446744073709551615 ≡ 2147483647
of_64_bits = refl

pub a_process : process_text 1 (draws_of 1 1)
    ≡ codes "process g1 c s1 load 14 13 p s2 pay 14 13 choose c s3 load 14 13 p s4 haul 14 13 "
    ++ codes "r s5 note 14 13 or r s6 mail 14 13 done end\n"
unfolding digits process_text first_steps_text first_way_text last_way_text
a_process = refl

-- of a process one step is refused at most
pub fourth_refused : process_text 10 (draws_of 1 10)
    ≡ codes "process g10 c s1 note 5 61 p s2 pay 5 61 choose c s3 load 5 61 p s4 haul 5 61 refuse 1 "
    ++ codes "r s5 note 5 61 or r s6 mail 5 61 done end\n"
unfolding digits process_text first_steps_text first_way_text last_way_text
fourth_refused = refl

pub two_processes : processes_text 2 2
    ≡ codes "process g1 c s1 load 1 39 p s2 pay 1 39 choose c s3 load 1 39 p s4 haul 1 39 "
    ++ codes "r s5 note 1 39 or r s6 mail 1 39 done end\n"
    ++ codes "process g2 c s1 note 7 76 p s2 pay 7 76 choose c s3 load 7 76 refuse 1 p s4 haul 7 76 "
    ++ codes "r s5 note 7 76 or r s6 mail 7 76 done end\n"
unfolding digits process_text first_steps_text first_way_text last_way_text
two_processes = refl

-- a whole text
pub a_scenario : generated 1 1 ≡
    codes "version = 1\n"
    ++ codes "conflicts = [[\"add\", \"take\"], [\"take\", \"take\"], [\"note\", \"note\"], [\"book\", \"book\"]]\n"
    ++ codes "processes = \"\"\"\n"
    ++ codes "process g1 c s1 load 14 13 p s2 pay 14 13 choose c s3 load 14 13 p s4 haul 14 13 "
    ++ codes "r s5 note 14 13 or r s6 mail 14 13 done end\n"
    ++ codes "\"\"\"\n\n"
    ++ codes "[[op]]\nname = \"add\"\nsubsystem = 0\nverb = \"add\"\n\n"
    ++ codes "[[op]]\nname = \"take\"\nsubsystem = 0\nverb = \"take\"\n\n"
    ++ codes "[[op]]\nname = \"pay\"\nsubsystem = 1\nverb = \"add\"\n\n"
    ++ codes "[[op]]\nname = \"ship\"\nsubsystem = 2\nverb = \"add\"\n\n"
    ++ codes "[[op]]\nname = \"note\"\nsubsystem = 4\nverb = \"put\"\n\n"
    ++ codes "[[op]]\nname = \"book\"\nsubsystem = 6\nverb = \"hold\"\n\n"
    ++ codes "[[op]]\nname = \"load\"\nsubsystem = 2\nverb = \"add\"\n\n"
    ++ codes "[[op]]\nname = \"haul\"\nsubsystem = 2\nverb = \"add\"\n\n"
    ++ codes "[[op]]\nname = \"mail\"\nsubsystem = 3\nverb = \"add\"\n"
unfolding digits process_text first_steps_text first_way_text last_way_text tail_text
a_scenario = refl
