use Rattle.std.proofs.Common.{rules, ◌≢◌}
use Rattle.text_words.specs.Marks.{default_of}
use Rattle.process_text.proofs.Printed.{setting_printed}
use Rattle.process_text.proofs.printing.print_setting.Goals as goal

pub returns : goal.returns
returns c =
    let other : c.args.number ≢ default_of c.args.setting = search rules in
    setting_printed c.args.setting c.args.number c.args.out.now.items c.print_word.new.out.items c.print_number.new.out.items other (search rules) (search rules)
