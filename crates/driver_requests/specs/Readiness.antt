-- What a driver reads first.
use Rattle.std.specs.Prelude.{ℕ, List, ◌++◌, flat_map, length}
use Rattle.process_tree.specs.declared.plan.Plan.{Plan}
use Rattle.process_text.specs.Canonical.{line_of}
use Rattle.schedule_model.specs.declared.history.History.{History}
use Rattle.schedule_model.specs.Histories.{active}
use Rattle.driver_requests.specs.Answers.{completing_words, ready_words}

-- a line for each of these processes
abbrev pub completing_text : List Plan → List ℕ → List ℕ
completing_text plans processes = flat_map (λ i. line_of (completing_words plans i)) processes

-- `ready N`, and a line for each of the N processes that are active in a history
abbrev pub ready_text : History → List ℕ
ready_text h = line_of (ready_words (length (active h.events))) ++ completing_text h.plans (active h.events)
