use Rattle.std.proofs.Common.{◌∙◌, sym, refl}
use Rattle.process_disk.proofs.Images.{still_told, told_before}
use Rattle.std.proofs.lemmas.Bool.{false≢true}
use Rattle.folder_files.proofs.Marks.{kept_by_looks}
use Rattle.folder_files.proofs.WholeCalls.{looks_then, only_by_kept}
use Rattle.file_rack.proofs.file_rack.FileRack.sync_all.Goals as goal

pub returns-then-not-any_marked-clause-kept : goal.returns-then-not-any_marked-clause-kept
returns-then-not-any_marked-clause-kept g c told =
    let self = c.args.self.now in
    only_by_kept (g.D.Folder.disk self.folder) (g.met.D.Folder.honest self.folder told) (λ k below. self.kept told k below (c.if-not-any_marked.ensures.none refl k))

pub invariant_of-self-2 : goal.invariant_of-self-2
invariant_of-self-2 g c =
    let D = g.D.Folder in
    let entered = c.enter.new.self in
    let one = D.disk entered.folder in
    let two = D.disk c.sync_names.new.self in
    let new = D.disk c.sync_marked.new.folder in
    let marks = kept_by_looks entered.unsynced one two c.sync_names.ensures.looks.tells c.sync_names.ensures.looks.looks entered.kept in
    let same = sym (c.sync_marked.ensures.access ∙ c.sync_names.ensures.access) in
    record {
      has_taken = λ taken. c.sync_marked.ensures.taken ∙ c.sync_names.ensures.taken ∙ entered.has_taken taken;
      has_tried = entered.has_tried;
      has_entered = λ yes is. entered.has_entered yes (same ∙ is);
      takes_first = λ yes is. entered.takes_first yes (same ∙ is);
      never_takes = λ no is. entered.never_takes no (same ∙ is);
      broken_by = λ broken. absurd (false≢true (sym (c.enter.ensures.broken ∙ c.requires) ∙ broken));
      kept = λ told k below unmarked. c.in_ok-sync_marked.ensures.kept marks (told_before two new c.sync_marked.ensures.looks.tells told) k below;
    }

pub returns-clause-kept : goal.returns-clause-kept
returns-clause-kept g c told =
    let D = g.D.Folder in
    let entered = c.enter.new.self in
    let one = D.disk entered.folder in
    let two = D.disk c.sync_names.new.self in
    let new = D.disk c.sync_marked.new.folder in
    let marks = kept_by_looks entered.unsynced one two c.sync_names.ensures.looks.tells c.sync_names.ensures.looks.looks entered.kept in
    let told_two = still_told one two c.sync_names.ensures.looks.tells (still_told (D.disk c.args.self.now.folder) one c.enter.ensures.looks.tells told) in
    let told_new = still_told two new c.sync_marked.ensures.looks.tells told_two in
    only_by_kept new (g.met.D.Folder.honest c.sync_marked.new.folder told_new) (c.in_ok-sync_marked.ensures.kept marks told_two)

pub returns-clause-looks : goal.returns-clause-looks
returns-clause-looks g c =
    let D = g.D.Folder in
    let old = D.disk c.args.self.now.folder in
    let one = D.disk c.enter.new.self.folder in
    let two = D.disk c.sync_names.new.self in
    let new = D.disk c.sync_marked.new.folder in
    let first = c.in_ok-enter.ensures.looks in
    let second = c.in_ok-sync_names.ensures.looks in
    let third = c.in_ok-sync_marked.ensures.looks in
    record {
      looks = λ told.
          let honest = g.met.D.Folder.honest c.args.self.now.folder told in
          let told_one = still_told old one first.tells told in
          let told_two = still_told one two second.tells told_one in
          looks_then old two new honest (looks_then old one two honest (first.looks told) (second.looks told_one)) (third.looks told_two);
      tells = third.tells ∙ second.tells ∙ first.tells;
    }
