use Rattle.std.proofs.Common.{◌≡◌, ◌≤◌, ◌+◌, ◌++◌, ◌∷◌, [], length, false, vec_capacity, sym, ap, ◌∙◌, subst, arith}
use Rattle.hold_tables.specs.Tables.{Tables, holds_nothing, has_number, is_open}
use Rattle.hold_tables.specs.Places.{all_steps}
use Rattle.std.specs.Prelude.{if◌then◌else◌, nat_eq}
use Rattle.bit_rows.specs.Cells.{IsCleared}
use Rattle.hold_tables.specs.Counts.{count_at}
use Rattle.bit_rows.specs.Cells.{cell}
use Rattle.hold_tables.specs.Spare.{IsRoomIn, SpareRoom}
use Rattle.hold_tables.proofs.OpenedWalks.{opened_counts, opened_tells}
use Rattle.hold_tables.proofs.Opening.{open_stands}
use Rattle.hold_tables.proofs.Told.{opened_told}
use Rattle.hold_tables.proofs.ToldNet.{net_opened}
use Rattle.hold_tables.proofs.holds.Holds.open_with.Goals as goal

pub invariant_of-self : goal.invariant_of-self
invariant_of-self c =
    let i = c.args.process in
    let steps = c.spare.inside.steps in
    let rows = c.self.inside.rows.items in
    let net = c.self.inside.net.items in
    let closed : has_number i rows ≡ false = subst (λ (t : Tables). is_open t i ≡ false) (sym c.self.view_is) c.requires.closed in
    let fits = subst (λ (s : SpareRoom). IsRoomIn (record { conflicts = c.self.inside.conflicts; net = net; processes = rows }) s) (sym c.spare.view_is) (subst (λ t. IsRoomIn t c.args.spare) (sym c.self.view_is) c.requires.room) in
    let room : length net + (all_steps rows + steps) ≤ vec_capacity c.give_to.new.list = (let need = fits.net in let has = c.give_to.ensures.capacity in omega arith) in
    let more : c.push_reserved.new.self.items ≡ rows ++ holds_nothing i steps ∷ [] = c.push_reserved.ensures.items ∙ ap (λ rs. rs ++ c.new-row.result ∷ []) c.give_to-2.ensures.items ∙ ap (λ r. rows ++ r ∷ []) c.new-row.ensures.row in
    let counts = c.self.inside.graph.counts in
    let walks = c.self.inside.graph.walks in
    let were = c.self.invariant.1.0.rows.0 in
    let led = c.self.invariant.1.1.rows.0 in
    let counts_cleared : IsCleared 0 (length rows) counts c.add_place.new.self = λ a b. c.add_place.ensures.cells a b ∙ ap (λ n. if nat_eq b n then 0 else count_at counts a b) were in
    let walks_cleared : IsCleared false (length rows) walks c.add_place-2.new.self = λ a b. c.add_place-2.ensures.cells a b ∙ ap (λ n. if nat_eq b n then false else cell walks a b) led in
    let counts_count : length c.add_place.new.self ≡ length rows + 1 = c.add_place.ensures.count ∙ ap (λ n. n + 1) were in
    let walks_count : length c.add_place-2.new.self ≡ length rows + 1 = c.add_place-2.ensures.count ∙ ap (λ n. n + 1) led in
    let stands = open_stands i steps c.self.inside.conflicts net rows _ _ closed c.new-row.ensures.small room c.self.invariant.0 in (
      rw (c.give_to.ensures.items, more) stands,
      rw (c.give_to.ensures.items, more) (
        opened_counts i steps c.self.inside.conflicts net rows c.self.invariant.0.0 fits.few counts c.add_place.new.self counts_cleared counts_count c.self.invariant.1.0,
        opened_tells i steps c.self.inside.conflicts net rows c.self.invariant.0.0 fits.few walks c.add_place-2.new.self walks_cleared walks_count stands.0 c.self.invariant.1.1,
      ),
      rw (c.give_to.ensures.items, more) (opened_told net rows i steps c.self.inside.beside c.self.invariant.2),
      rw (c.give_to.ensures.items, more) (net_opened i steps c.self.inside.conflicts net rows c.self.inside.in_net closed c.self.invariant.0.0 c.self.invariant.3),
    )
