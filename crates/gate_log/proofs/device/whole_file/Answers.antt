use Rattle.std.proofs.Common.{◌≡◌, ◌+◌, ◌∙◌, ◌++◌, ◌≤◌, min, length, length-append, take, drop, ap, arith, rules}
use Rattle.std.proofs.lemmas.List.{length-take, take-append-le}
use Rattle.std.proofs.Math.Seq.{take-take}
use Rattle.process_disk.specs.Disk.{Told, file_of}
use Rattle.process_disk.proofs.Images.{all_then, run_look, still_told}
use Rattle.gate_log.proofs.WholeFile.{at_end, read_on, with_part}
use Rattle.gate_log.proofs.device.whole_file.Goals as goal

pub loop-count-preserved : goal.loop-count-preserved
loop-count-preserved g c =
    let D = g.R.Rack.disk in
    let old = D c.args.rack.now in
    let mid = D c.loop-count.rack in
    let asked = D c.len-in-loop-count.new.self in
    let new = D c.read.new.self in
    let so = c.loop-count.invariant in
    let front = c.split_at_mut-rest.result.0.now in
    let file = file_of old.files c.args.file in
    let buf = c.read.new.buf in
    let n = c.in_ok-count.field-0 in
    let split = c.split_at_mut-rest.ensures in
    let up_to : c.loop-count.count ≡ length front = search rules in
    let size : c.resize.new.self.len ≡ length front + length buf = search rules in
    let now = with_part front buf (drop (length (front ++ buf)) c.resize.new.self.items) c.resize.new.self.len size in
    let told_asked : Told old → Told asked = λ told. still_told mid asked c.len-in-loop-count.ensures.looks.tells (still_told old mid so.tells told) in
    let same : Told old → asked.files ≡ old.files = λ told. (c.len-in-loop-count.ensures.looks.looks (still_told old mid so.tells told)).files ∙ (so.all told).read in
    let low : Told old → c.loop-count.count ≤ length file = λ told. omega (arith, so.within, ap length (so.read told), length-take c.loop-count.count c.loop-count.bytes.items, length-take c.loop-count.count file) in
    record {
      within = omega (arith, ap length now, length-append front buf, up_to, c.in_ok-count.ensures.bound, c.read.auto.buf);
      read = λ told.
          let held = c.saturating_add.result in
          let longer : c.loop-count.count ≤ held = search rules in
          let before : front ≡ take c.loop-count.count c.loop-count.bytes.items =
          split.front ∙ ap (take c.loop-count.count) (c.deref_mut.ensures.value ∙ c.in_ok-resize.ensures.items)
          ∙ take-append-le c.loop-count.count (take held c.loop-count.bytes.items) _ (omega (arith, so.within, longer, length-take held c.loop-count.bytes.items)) ∙ take-take c.loop-count.count held c.loop-count.bytes.items longer in
          let part : take n buf ≡ take n (drop c.loop-count.count (file_of asked.files c.args.file)) = c.in_ok-count.ensures.bytes (told_asked told) in
          ap (take (c.loop-count.count + n)) now ∙ read_on file front buf c.loop-count.count n up_to (before ∙ so.read told) (part ∙ ap (λ fs. take n (drop c.loop-count.count (file_of fs c.args.file))) (same told));
      ended = λ told short.
          let ends : n ≡ min (length c.split_at_mut-rest.result.1.now) (length (drop c.loop-count.count (file_of asked.files c.args.file))) = c.in_ok-count.ensures.count (told_asked told) in
          at_end file c.loop-count.count n (length c.split_at_mut-rest.result.1.now) (low told) (ends ∙ ap (λ fs. min (length c.split_at_mut-rest.result.1.now) (length (drop c.loop-count.count (file_of fs c.args.file)))) (same told)) (omega (arith, short, ap length now, length-append front buf, up_to, c.read.auto.buf));
      all = λ told.
          let told_mid = still_told old mid so.tells told in
          let told_asked = still_told mid asked c.len-in-loop-count.ensures.looks.tells told_mid in
          let told_new = still_told asked new c.read.ensures.looks.tells told_asked in
          let H = g.met.R.Rack.honest in
          let one = run_look mid asked (H c.loop-count.rack told_mid) (H c.len-in-loop-count.new.self told_asked) (c.len-in-loop-count.ensures.looks.looks told_mid) in
          let two = run_look asked new (H c.len-in-loop-count.new.self told_asked) (H c.read.new.self told_new) (c.read.ensures.looks.looks told_asked) in
          all_then old mid new (H c.loop-count.rack told_mid) (H c.read.new.self told_new) (so.all told) (all_then mid asked new (H c.len-in-loop-count.new.self told_asked) (H c.read.new.self told_new) one two);
      tells = c.read.ensures.looks.tells ∙ c.len-in-loop-count.ensures.looks.tells ∙ so.tells;
      quiet = c.in_ok-count.ensures.faults.quiet ∙ c.in_ok-len.ensures.faults.quiet ∙ so.quiet;
    }
