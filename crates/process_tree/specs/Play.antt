-- Play: what becomes of a process as the tries of its steps end well or badly.
use Rattle.std.specs.Prelude.{ℕ, zero, suc, ◌+◌, ◌-◌, List, [], ◌∷◌, ◌++◌, length, take, map, filter, find, flat_map, Option, Some}
use Rattle.std.specs.Prelude.{None, if◌then◌else◌, nat_eq, nat_lt, unwrap_or}
use Rattle.process_tree.specs.declared.play.Outcome.{Outcome}
use Rattle.process_tree.specs.declared.play.Outcome.TheVariants.{Done, Refused}
use Rattle.process_tree.specs.declared.play.Fallback.{Fallback}
use Rattle.process_tree.specs.declared.play.Fallback.TheVariants as fallback
use Rattle.process_tree.specs.declared.play.Played.{Played}
use Rattle.process_tree.specs.declared.play.Played.TheVariants.{Path, Nothing, Stuck, Unfinished}
use Rattle.process_tree.specs.Blocks.{numbers_from}
use Rattle.process_tree.specs.Shape.{Shape, kind_of, can_be_refused, next_steps, goes_on_to, least, fixed_len, branch_to}

-- the beginnings of w that have all its commit points, the shortest first
abbrev pub kept_prefixes : Shape → List ℕ → List (List ℕ)
kept_prefixes t w = map (λ k. take k w) (numbers_from (fixed_len t w) (length w - fixed_len t w + 1))

-- where a refused b falls back to, w being done: the least step after b that goes on from such a beginning
abbrev pub fallback_of : Shape → List ℕ → ℕ → Option ℕ
fallback_of t w b = least (filter (λ d. nat_lt b d) (flat_map (next_steps t) (kept_prefixes t w)))

-- the beginning of w from which d goes on
abbrev pub kept_for : Shape → List ℕ → ℕ → List ℕ
kept_for t w d = unwrap_or (find (λ v. goes_on_to t v d) (kept_prefixes t w)) []

-- where a refused step with w done before it falls back to: where there is no way on, all is undone, or a commit point stands
abbrev pub fallback_by : Shape → List ℕ → Option ℕ → Fallback
fallback_by t w None = if nat_eq (fixed_len t w) 0 then fallback.All else fallback.Stuck
fallback_by t w (Some d) = fallback.Alternative (length (kept_for t w d)) d

-- the same on the branch to b
abbrev pub fallback_place : Shape → ℕ → Fallback
fallback_place t b = fallback_by t (branch_to t b) (fallback_of t (branch_to t b) b)

-- where play stands: at a step that asks for an outcome, with the steps that are done, or at its end
pub data Stand : Type 0 where
  asks : List ℕ → ℕ → Stand
  ended : Played → Stand

-- w is done: play comes to this next step, or it has ended
abbrev pub follow : (List ℕ → ℕ → Stand) → List ℕ → Option ℕ → Stand
follow come w None = ended (Path w)
follow come w (Some d) = come w d

-- play comes to d, w being done, in at most n further steps: a retriable step is done at once
abbrev pub come_to : ℕ → Shape → List ℕ → ℕ → Stand
come_to zero t w d = asks w d
come_to (suc n) t w d =
    if can_be_refused (kind_of t d) then asks w d else follow (come_to n t) (w ++ d ∷ []) (least (next_steps t (w ++ d ∷ [])))

-- the same; as each step is greater than the one before, there are no more of them than the process has
abbrev pub arrive : Shape → List ℕ → ℕ → Stand
arrive t w d = come_to (length t.kinds) t w d

-- play goes on from what is done
abbrev pub go_on : Shape → List ℕ → Stand
go_on t w = follow (arrive t) w (least (next_steps t w))

-- play goes back from a refused b, to the step where it falls back to
abbrev pub go_back : Shape → List ℕ → ℕ → Option ℕ → Stand
go_back t w b None = ended (if nat_eq (fixed_len t w) 0 then Nothing else Stuck b)
go_back t w b (Some d) = arrive t (kept_for t w d) d

-- one outcome
abbrev pub answered : Shape → Stand → Outcome → Stand
answered t (asks w b) Done = go_on t (w ++ b ∷ [])
answered t (asks w b) Refused = go_back t w b (fallback_of t w b)
answered t (ended end) o = ended end

-- where play stands after these outcomes
abbrev pub stand_from : Shape → Stand → List Outcome → Stand
stand_from t s [] = s
stand_from t s (o ∷ os) = stand_from t (answered t s o) os

abbrev pub stand : Shape → List Outcome → Stand
stand t os = stand_from t (go_on t []) os

-- how a play ends that stands there
abbrev pub end_of : Stand → Played
end_of (asks w b) = Unfinished
end_of (ended end) = end

-- how a play with these outcomes ends; outcomes behind its end aren't looked at
abbrev pub play : Shape → List Outcome → Played
play t os = end_of (stand t os)
