use Rattle.std.proofs.Common.{◌∙◌, ◌++◌, List, [], Some, get_or, ap, ap₂, sym, map, rules, take_all}
use Rattle.std.specs.Borrow.{Bor}
use Rattle.clap.specs.Words.{rule_of, new_rule, Rule}
use Rattle.plain_words.specs.App.{app_with, option_rule}
use Rattle.plain_words.specs.Form.{Text}
use Rattle.plain_words.specs.View.{option_form}
use Rattle.plain_words.specs.declared.command_row.OptionRow.{OptionRow}
use Rattle.plain_words.proofs.Lists.{mapped_twice}
use Rattle.plain_words.proofs.Declared.{one_more}
use Rattle.plain_words.proofs.parsing.clap_command.Goals as goal

pub loop-argument-preserved : goal.loop-argument-preserved
loop-argument-preserved c =
    one_more (λ (argument : Bor Text). new_rule argument.now) c.args.row.now.word.now [] c.args.row.now.arguments.now c.loop-argument.argument-index _ _ _ _
    c.loop-argument-test.true c.loop-argument.invariant (c.in_ok-command.ensures.shape (search rules)) c.new-in-loop-argument.ensures.rule

abbrev no_text : Bor Text
no_text = record { ref_ptr = (0, 0); now = [] }

abbrev no_option : OptionRow
no_option = record { name = no_text; value = no_text }

pub loop-option-preserved : goal.loop-option-preserved
loop-option-preserved c =
    let name = (get_or c.args.row.now.options.now c.loop-option.option-index no_option).name.now in
    let rule_is = ap rule_of c.long.ensures ∙ ap (λ (r : Rule). record r { long = Some name }) c.new-in-loop-option.ensures.rule in
    one_more (λ (option : OptionRow). option_rule option.name.now) c.args.row.now.word.now (map (λ argument. new_rule argument.now) c.args.row.now.arguments.now)
    c.args.row.now.options.now c.loop-option.option-index _ _ _ _
    c.loop-option-test.true c.loop-option.invariant (c.in_ok-command-2.ensures.shape (search rules)) rule_is

pub returns : goal.returns
returns c =
    c.loop-option.invariant
    ∙ ap (λ (rules : List Rule). app_with c.args.row.now.word.now rules) (ap₂ (λ (named options : List Rule). named ++ options)
    (sym (mapped_twice new_rule (λ (argument : Bor Text). argument.now) c.args.row.now.arguments.now))
    (ap (λ options. map (λ (option : OptionRow). option_rule option.name.now) options) (take_all c.loop-option.option-index c.args.row.now.options.now c.loop-option-test.false)
    ∙ sym (ap (λ (names : List Text). map option_rule names) (mapped_twice (λ option. option.name) option_form c.args.row.now.options.now)
    ∙ mapped_twice option_rule (λ (option : OptionRow). option.name.now) c.args.row.now.options.now)))
