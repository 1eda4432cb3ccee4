-- Lines that a form gave a request.
use Rattle.std.proofs.Common.{◌≡◌, ◌⊎◌, ℕ, List, [], ◌∷◌, drop, length, Option, Some, inl, inr, refl, subst, sym}
use Rattle.process_tree.specs.declared.plan.Plan.{Plan}
use Rattle.commute_table.specs.declared.catalog.Catalog.{Catalog}
use Rattle.machine_model.specs.Replies.{Handed}
use Rattle.process_core.specs.Cores.{CoreState}
use Rattle.command_input.specs.Scenarios.{AreGoodPlans}
use Rattle.session_play.specs.Pieces.{session_of}
use Rattle.session_play.specs.Playing.{play_start}
use Rattle.session_play.specs.declared.cut.Cut.{Cut}
use Rattle.session_play.specs.declared.cut.Cut.TheVariants.{DiskFault, NoMemory}
use Rattle.driver_requests.specs.Requests.{request_of}
use Rattle.driver_requests.specs.declared.request.Request.{Request}
use Rattle.driver_requests.specs.declared.request.Request.TheVariants.{StartSpelled}
use Rattle.driver_answers.specs.Serving.{DriverState, IsLineAnswered, IsLineCut, IsRequestAnswered, LeadsTo}

module _ (c : Catalog) (plans : List Plan) (s : DriverState) (n : ℕ) where
  -- What answers the request of a line that isn't empty answers the line.
  pub line_answered : (line : List ℕ) (r : Option Request) (t : DriverState) (text : List ℕ) → (length line ≡ 0 → ⊥) → request_of line ≡ r → IsRequestAnswered c plans s n line r t text
      → IsLineAnswered c plans s n line t text
  line_answered [] r t text some is answered = absurd (some refl)
  line_answered (b ∷ bs) r t text some is answered = subst (λ r. IsRequestAnswered c plans s n (b ∷ bs) r t text) (sym is) answered

-- A start that was not answered, as a line.
pub spelled_line_cut : (c : Catalog) (plans : List Plan) (old new : CoreState) (ps qs : List Handed) (line : List ℕ) (cut : Cut) → request_of line ≡ Some StartSpelled
    → ((cut ≡ DiskFault) × (new ≡ old))
    ⊎ ((cut ≡ NoMemory) × ((new ≡ old) ⊎ ((p : Plan) × AreGoodPlans c.ops (drop 6 line) (p ∷ []) × ((ps qs : List Handed) → new ≡ (play_start (session_of old ps qs) p.name (Some p)).state.core))))
    → IsLineCut c plans (record { core = old; hand = record { unfinished = ps; queued = qs } }) line cut new
spelled_line_cut c plans old new ps qs line DiskFault is (inl (so, same)) = same
spelled_line_cut c plans old new ps qs line DiskFault is (inr (so, led)) = absurd cc
spelled_line_cut c plans old new ps qs line NoMemory is (inl (so, same)) = absurd cc
spelled_line_cut c plans old new ps qs line NoMemory is (inr (so, inl same)) = inl same
spelled_line_cut c plans old new ps qs line NoMemory is (inr (so, inr (p, good, led))) = inr (subst (λ r. LeadsTo c plans (record { core = old; hand = record { unfinished = ps; queued = qs } }) line r new) (sym is) (p, good, led ps qs))
