use Rattle.std.proofs.Common.{◌≡◌, ◌-◌, Bool, true, false, sym, ◌∙◌, subst, ap, rules, List, [], ◌∷◌, ◌++◌, Err}
use Rattle.std.specs.Prelude.{codes, MatchResult}
use Rattle.sh_tree.specs.declared.Part.{Part}
use Rattle.sh_tree.specs.declared.Part.TheVariants.{Byte}
use Rattle.sh_tree.specs.declared.Form.{Form}
use Rattle.sh_tree.specs.declared.Form.TheVariants.{If}
use Rattle.sh_tree.specs.declared.AndOr.{roll-AndOr}
use Rattle.sh_tree.specs.declared.Command.{Command}
use Rattle.sh_text.specs.Front.{Text, follow, reserved, is_word}
use Rattle.sh_parser.specs.declared.words.Mode.{Mode}
use Rattle.sh_parser.specs.declared.words.Mode.TheVariants.{Bare}
use Rattle.sh_parser.specs.declared.reader.Failed.{Failed}
use Rattle.sh_parser.specs.declared.reader.Failed.TheVariants.{Memory}
use Rattle.sh_parser.specs.declared.compound.Opening.{Opening}
use Rattle.sh_parser.specs.declared.compound.Opening.TheVariants.{If as OpenIf, While as OpenWhile, Until as OpenUntil, For as OpenFor, Case as OpenCase, Nothing as OpenNothing}
use Rattle.sh_parser.specs.Faults.{stray_kind}
use Rattle.sh_parser.specs.Grammar.{parts, piece, dollar, braces, substitution, list, some_list, command, function, enclosed, simple, compound, turns, each, choice, compound_by, is_stuck, Reads, Runs, done, faulty}
use Rattle.sh_parser.specs.Reading.{Answers, AnswersSimple, AnswersBranches, AnswersForm, Escapes}
use Rattle.sh_parser.proofs.Steps.{exit, missing, full, strayed, built, Leads, step, ends, append_nil, more, joins, no_depth, some_depth, exit_simple, full_simple, exit_branches, missing_branches, full_branches, exit_form, missing_form, opened_by, each_way, is_true, moves, starts}
use Rattle.sh_parser.proofs.Parts.{links_none, links_breaks, links_leads, stuck_list, stuck_words, stuck_parens, braces_text, dollar_text, parens_text, each_text, simple_whole, assigns_unseen}
use Rattle.sh_parser.proofs.WordRules.{braces_change, braces_change_f6, braces_deep, braces_length, braces_malformed, braces_open, braces_plain, dollar_brace, dollar_brace_f2, dollar_digit, dollar_itself, dollar_left_out, dollar_name, dollar_paren, dollar_paren_f2, dollar_sign, parts_end, parts_more, parts_more_f2, parts_more_f3, piece_deep, piece_dollar, piece_dollar_f2, piece_double, piece_double_f2, piece_escape, piece_escape_stuck, piece_left_out, piece_none, piece_nul, piece_open, piece_paren, piece_paren_f3, piece_plain, piece_single, piece_single_f2, substitution_arith, substitution_arith_f3, substitution_arith_stuck, substitution_deep, substitution_list, substitution_list_f3, substitution_stray, word_goes}
use Rattle.sh_parser.proofs.CommandRules.{after_ends, after_more, after_more_f4, after_stuck, and_or_of, and_or_of_f0, and_or_of_f1, assign_of, assign_of_f2, assign_of_n1, command_enclosed, command_enclosed_f1, command_function, command_function_f3, command_nothing, command_simple, command_simple_f3, commands_of, commands_of_f0, commands_of_f1, enclosed_of, enclosed_of_f0, enclosed_of_f1, enclosed_stuck, function_of, function_of_f5, function_of_n2, function_stray, list_ends, list_f, list_item, list_item_f, piped_end, piped_more, piped_more_f3, pipeline_not, pipeline_not_f2, pipeline_plain, pipeline_plain_f1, simple_assign, simple_assign_f4, simple_assign_f5, simple_end, simple_redir, simple_redir_f2, simple_redir_f3, simple_word, simple_word_f4, simple_word_f5, some_list_none, some_list_some, some_list_some_f2}
use Rattle.sh_parser.proofs.CompoundRules.{branches_last, branches_last_f4, branches_more, branches_more_f0, branches_more_f2, branches_more_f4, branches_more_n1, case_of, case_of_f1, case_of_f2, cases_end, cases_last, cases_last_n4, cases_more, cases_more_f2, cases_more_f4, choice_of, choice_of_f2, choice_of_f5, choice_of_n4, choice_stray, compound_deep, compound_of, do_group_of, do_group_of_f1, do_group_of_n0, do_group_of_n2, each_of, each_of_f3, each_of_f4, each_stray, each_words_in, each_words_in_f3, each_words_none, each_words_semicolon, each_words_stuck, form_case, form_case_f1, form_case_n0, form_for, form_for_f1, form_for_n0, form_group, form_group_f1, form_group_n0, form_group_n2, form_if, form_if_f1, form_if_n0, form_nothing, form_subshell, form_subshell_f1, form_subshell_n0, form_subshell_n2, form_until, form_until_f1, form_until_n0, form_while, form_while_f1, form_while_n0, otherwise_else, otherwise_else_f1, otherwise_else_n2, otherwise_fi, otherwise_fi_n1, patterns_last, patterns_last_f1, patterns_more, patterns_more_f6, patterns_stray, patterns_stuck, turns_of, turns_of_f0, turns_of_f1, words_end, words_more, words_more_f2, words_more_f3}
use Rattle.sh_parser.proofs.reader.Reader.+read.Goals as goal

pub and_or-returns-in_err-first-clause-reads : goal.and_or-returns-in_err-first-clause-reads
and_or-returns-in_err-first-clause-reads t c = exit c.from_residual.result c.from_residual.ensures.1 (λ k h. (and_or_of_f0 _ _ _ _ h)) c.in_err-first.ensures.reads

pub and_or-returns-in-None-clause-reads : goal.and_or-returns-in-None-clause-reads
and_or-returns-in-None-clause-reads t c = ends c.links.invariant.1 (links_none c.args.depth c.links.self.rest.now c.link.new.self.rest.now c.in-None.ensures.linked) (ap (λ ls. roll-AndOr (record { first = c.in_ok-first.first; rest = ls })) (append_nil c.links.rest))

pub and_or-returns-in_err-next-in-Some-clause-reads : goal.and_or-returns-in_err-next-in-Some-clause-reads
and_or-returns-in_err-next-in-Some-clause-reads t c = exit c.from_residual-in_err-next-in-Some.result c.from_residual-in_err-next-in-Some.ensures.1 (λ k h. c.links.invariant.1.breaks _ _ (links_breaks c.args.depth c.links.self.rest.now c.link.new.self.rest.now c.in-Some.when_ok _ _ c.in-Some.ensures.linked h)) c.in_err-next-in-Some.ensures.reads

pub and_or-returns-in_err-push-in-Some-clause-reads : goal.and_or-returns-in_err-push-in-Some-clause-reads
and_or-returns-in_err-push-in-Some-clause-reads t c = full c.from_residual-in_err-push-in-Some.result c.from_residual-in_err-push-in-Some.ensures.1 c.in_err-push-in-Some.ensures

pub assign-returns-in_err-name-clause-reads : goal.assign-returns-in_err-name-clause-reads
assign-returns-in_err-name-clause-reads t c = full c.from_residual.result c.from_residual.ensures.1 c.in_err-name.ensures

pub assign-returns-in_err-need-clause-reads : goal.assign-returns-in_err-need-clause-reads
assign-returns-in_err-need-clause-reads t c = missing _ (follow (codes "=") c.past-self.result.now) c.args.depth c.past-self.result.now c.from_residual-in_err-need.result c.from_residual-in_err-need.ensures.1 (λ h. (assign_of_n1 _ _ _ c.past-self.ensures.same h)) c.in_err-need.ensures.follows

pub assign-returns-in_err-value-clause-reads : goal.assign-returns-in_err-value-clause-reads
assign-returns-in_err-value-clause-reads t c = exit c.from_residual-in_err-value.result c.from_residual-in_err-value.ensures.1 (λ k h. (assign_of_f2 _ _ _ _ _ _ c.past-self.ensures.same c.in_ok-need.ensures.follows h)) c.in_err-value.ensures.reads

pub assign-returns-clause-reads : goal.assign-returns-clause-reads
assign-returns-clause-reads t c = record { is = rw c.in_ok-name.ensures (assign_of _ _ _ _ _ _ c.past-self.ensures.same c.in_ok-need.ensures.follows c.in_ok-value.ensures.reads.is) }

pub braces-returns-then-depth-eq0-clause-reads : goal.braces-returns-then-depth-eq0-clause-reads
braces-returns-then-depth-eq0-clause-reads t c = record { is = (braces_deep _ _ _ (no_depth c.args.depth c.if-depth-eq0.true)) }

pub braces-returns-in_err-param-in-Plain-clause-reads : goal.braces-returns-in_err-param-in-Plain-clause-reads
braces-returns-in_err-param-in-Plain-clause-reads t c = full c.from_residual.result c.from_residual.ensures.1 c.in_err-param-in-Plain.ensures

pub braces-returns-in_err-param-in-Length-clause-reads : goal.braces-returns-in_err-param-in-Length-clause-reads
braces-returns-in_err-param-in-Length-clause-reads t c = full c.from_residual-in_err-param-in-Length.result c.from_residual-in_err-param-in-Length.ensures.1 c.in_err-param-in-Length.ensures

pub braces-returns-in_err-param-in-Changed-clause-reads : goal.braces-returns-in_err-param-in-Changed-clause-reads
braces-returns-in_err-param-in-Changed-clause-reads t c = full c.from_residual-in_err-param-in-Changed.result c.from_residual-in_err-param-in-Changed.ensures.1 c.in_err-param-in-Changed.ensures

pub braces-returns-in_err-word-in-Changed-clause-reads : goal.braces-returns-in_err-word-in-Changed-clause-reads
braces-returns-in_err-word-in-Changed-clause-reads t c = exit c.from_residual-in_err-word-in-Changed.result c.from_residual-in_err-word-in-Changed.ensures.1 (λ k h. (braces_change_f6 _ _ _ _ _ _ _ _ _ (some_depth c.args.depth c.if-depth-eq0.false) (braces_text c.args.self.now.rest.now _ _ _ _ c.tail.ensures.same c.joined.ensures.same c.tail-2.ensures.same c.joined-text.ensures.same) (sym c.in-Changed.ensures) c.past_content-self-in-Changed.ensures.same (subst (λ (m : Mode). Reads (parts m (c.args.depth - 1)) c.past_content-self-in-Changed.result.now (faulty k c.parts.new.self.rest.now)) c.word_mode.ensures h))) c.in_err-word-in-Changed.ensures.reads

pub braces-returns-in-Open-clause-reads : goal.braces-returns-in-Open-clause-reads
braces-returns-in-Open-clause-reads t c = record { is = (braces_open _ _ _ _ (some_depth c.args.depth c.if-depth-eq0.false) (braces_text c.args.self.now.rest.now _ _ _ _ c.tail.ensures.same c.joined.ensures.same c.tail-2.ensures.same c.joined-text.ensures.same) (sym c.in-Open.ensures)) }

pub braces-returns-in-Malformed-clause-reads : goal.braces-returns-in-Malformed-clause-reads
braces-returns-in-Malformed-clause-reads t c = record { is = (braces_malformed _ _ _ _ (some_depth c.args.depth c.if-depth-eq0.false) (braces_text c.args.self.now.rest.now _ _ _ _ c.tail.ensures.same c.joined.ensures.same c.tail-2.ensures.same c.joined-text.ensures.same) (sym c.in-Malformed.ensures)) }

pub braces-returns-in_ok-param-in-Plain-clause-reads : goal.braces-returns-in_ok-param-in-Plain-clause-reads
braces-returns-in_ok-param-in-Plain-clause-reads t c = record { is = rw (c.changed.ensures, c.in_ok-param-in-Plain.ensures, c.past_content-self.ensures.same) (braces_plain _ _ _ _ (some_depth c.args.depth c.if-depth-eq0.false) (braces_text c.args.self.now.rest.now _ _ _ _ c.tail.ensures.same c.joined.ensures.same c.tail-2.ensures.same c.joined-text.ensures.same) (sym c.in-Plain.ensures)) }

pub braces-returns-in_ok-param-in-Length-clause-reads : goal.braces-returns-in_ok-param-in-Length-clause-reads
braces-returns-in_ok-param-in-Length-clause-reads t c = record { is = rw (c.changed-in-Length.ensures, c.in_ok-param-in-Length.ensures, c.past_content-self-in-Length.ensures.same, c.named_at.ensures.same) (braces_length _ _ _ _ (some_depth c.args.depth c.if-depth-eq0.false) (braces_text c.args.self.now.rest.now _ _ _ _ c.tail.ensures.same c.joined.ensures.same c.tail-2.ensures.same c.joined-text.ensures.same) (sym c.in-Length.ensures)) }

pub braces-returns-in_ok-word-in-Changed-clause-reads : goal.braces-returns-in_ok-word-in-Changed-clause-reads
braces-returns-in_ok-word-in-Changed-clause-reads t c = record { is = rw (c.changed-in-Changed.ensures, c.change.ensures, c.in_ok-param-in-Changed.ensures, c.tail-self.ensures.same) (braces_change _ _ _ _ _ _ _ _ _ (some_depth c.args.depth c.if-depth-eq0.false) (braces_text c.args.self.now.rest.now _ _ _ _ c.tail.ensures.same c.joined.ensures.same c.tail-2.ensures.same c.joined-text.ensures.same) (sym c.in-Changed.ensures) c.past_content-self-in-Changed.ensures.same (subst (λ (m : Mode). Reads (parts m (c.args.depth - 1)) c.past_content-self-in-Changed.result.now (done c.in_ok-word-in-Changed.word c.parts.new.self.rest.now)) c.word_mode.ensures c.in_ok-word-in-Changed.ensures.reads.is)) }

pub branches-returns-in_err-test-clause-reads : goal.branches-returns-in_err-test-clause-reads
branches-returns-in_err-test-clause-reads t c = exit_branches c.from_residual.result c.from_residual.ensures.1 (λ k h. (c.arms.invariant.1.breaks _ _ (branches_more_f0 _ _ _ _ h))) c.in_err-test.ensures.reads

pub branches-returns-in_err-need_word-clause-reads : goal.branches-returns-in_err-need_word-clause-reads
branches-returns-in_err-need_word-clause-reads t c = missing_branches _ (reserved (codes "then") c.some_list.new.self.rest.now) c.args.depth c.some_list.new.self.rest.now c.from_residual-in_err-need_word.result c.from_residual-in_err-need_word.ensures.1 (λ h. (c.arms.invariant.1.breaks _ _ (branches_more_n1 _ _ _ _ c.in_ok-test.ensures.reads.is h))) c.in_err-need_word.ensures.follows

pub branches-returns-in_err-body-clause-reads : goal.branches-returns-in_err-body-clause-reads
branches-returns-in_err-body-clause-reads t c = exit_branches c.from_residual-in_err-body.result c.from_residual-in_err-body.ensures.1 (λ k h. (c.arms.invariant.1.breaks _ _ (branches_more_f2 _ _ _ _ _ _ _ c.in_ok-test.ensures.reads.is c.in_ok-need_word.ensures.follows h))) c.in_err-body.ensures.reads

pub branches-returns-in_err-push-clause-reads : goal.branches-returns-in_err-push-clause-reads
branches-returns-in_err-push-clause-reads t c = full_branches c.from_residual-in_err-push.result c.from_residual-in_err-push.ensures.1 c.in_err-push.ensures

pub branches-returns-in_err-rest-in-None-clause-reads : goal.branches-returns-in_err-rest-in-None-clause-reads
branches-returns-in_err-rest-in-None-clause-reads t c = exit_branches c.from_residual-in_err-rest-in-None.result c.from_residual-in_err-rest-in-None.ensures.1 (λ k h. (c.arms.invariant.1.breaks _ _ (branches_last_f4 _ _ _ _ _ _ _ _ _ c.in_ok-test.ensures.reads.is c.in_ok-need_word.ensures.follows c.in_ok-body.ensures.reads.is c.in-None.ensures.same h))) c.in_err-rest-in-None.ensures.reads

pub branches-returns-in-None-clause-reads : goal.branches-returns-in-None-clause-reads
branches-returns-in-None-clause-reads t c = record { is = (_, c.arms.invariant.1.gives _ _ (branches_last _ _ _ _ _ _ _ _ _ c.in_ok-test.ensures.reads.is c.in_ok-need_word.ensures.follows c.in_ok-body.ensures.reads.is c.in-None.ensures.same c.in_ok-rest-in-None.ensures.reads.is), ap (λ xs. If xs c.in_ok-rest-in-None.rest) c.in_ok-push.ensures) }

pub case-returns-in_err-patterns-clause-reads : goal.case-returns-in_err-patterns-clause-reads
case-returns-in_err-patterns-clause-reads t c = exit c.from_residual.result c.from_residual.ensures.1 (λ k h. (case_of_f1 _ _ _ _ _ c.past_paren-self.ensures.same h)) c.in_err-patterns.ensures.reads

pub case-returns-in_err-body-clause-reads : goal.case-returns-in_err-body-clause-reads
case-returns-in_err-body-clause-reads t c = exit c.from_residual-in_err-body.result c.from_residual-in_err-body.ensures.1 (λ k h. (case_of_f2 _ _ _ _ _ _ _ c.past_paren-self.ensures.same c.in_ok-patterns.ensures.reads.is h)) c.in_err-body.ensures.reads

pub case-returns-clause-reads : goal.case-returns-clause-reads
case-returns-clause-reads t c = record { is = (case_of _ _ _ _ _ _ _ c.past_paren-self.ensures.same c.in_ok-patterns.ensures.reads.is c.in_ok-body.ensures.reads.is) }

pub cases-returns-in-Some-clause-reads : goal.cases-returns-in-Some-clause-reads
cases-returns-in-Some-clause-reads t c = ends c.cases.invariant.1 (cases_end _ _ _ _ c.gap-self.ensures.same c.in-Some.ensures.same) (append_nil c.cases.cases)

pub cases-returns-in_err-case-clause-reads : goal.cases-returns-in_err-case-clause-reads
cases-returns-in_err-case-clause-reads t c = exit c.from_residual.result c.from_residual.ensures.1 (λ k h. (c.cases.invariant.1.breaks _ _ (cases_more_f2 _ _ _ _ _ c.gap-self.ensures.same c.in-None.ensures.same h))) c.in_err-case.ensures.reads

pub cases-returns-in_err-push-clause-reads : goal.cases-returns-in_err-push-clause-reads
cases-returns-in_err-push-clause-reads t c = full c.from_residual-in_err-push.result c.from_residual-in_err-push.ensures.1 c.in_err-push.ensures

pub cases-returns-in_err-need_word-in-None-follow-clause-reads : goal.cases-returns-in_err-need_word-in-None-follow-clause-reads
cases-returns-in_err-need_word-in-None-follow-clause-reads t c = missing _ (reserved (codes "esac") c.case.new.self.rest.now) c.args.depth c.case.new.self.rest.now c.from_residual-in_err-need_word-in-None-follow.result c.from_residual-in_err-need_word-in-None-follow.ensures.1 (λ h. (c.cases.invariant.1.breaks _ _ (cases_last_n4 _ _ _ _ _ c.gap-self.ensures.same c.in-None.ensures.same c.in_ok-case.ensures.reads.is c.in-None-follow.ensures.same h))) c.in_err-need_word-in-None-follow.ensures.follows

pub cases-returns-in-None-follow-clause-reads : goal.cases-returns-in-None-follow-clause-reads
cases-returns-in-None-follow-clause-reads t c = ends c.cases.invariant.1 (cases_last _ _ _ _ _ _ c.gap-self.ensures.same c.in-None.ensures.same c.in_ok-case.ensures.reads.is c.in-None-follow.ensures.same c.in_ok-need_word-in-None-follow.ensures.follows) (sym c.in_ok-push.ensures)

pub choice-returns-then-not-is_word-clause-reads : goal.choice-returns-then-not-is_word-clause-reads
choice-returns-then-not-is_word-clause-reads t c = strayed c.gap-self.result.now c.args.depth c.stray.ensures.kind c.stray.ensures.place (choice_stray _ _ _ c.gap-self.ensures.same (sym c.is_word.ensures ∙ c.if-not-is_word.true))

pub choice-returns-in_err-word-clause-reads : goal.choice-returns-in_err-word-clause-reads
choice-returns-in_err-word-clause-reads t c = exit c.from_residual.result c.from_residual.ensures.1 (λ k h. (choice_of_f2 _ _ _ _ _ c.gap-self.ensures.same (sym c.is_word.ensures ∙ c.if-not-is_word.false) h)) c.in_err-word.ensures.reads

pub choice-returns-in_err-need_word-clause-reads : goal.choice-returns-in_err-need_word-clause-reads
choice-returns-in_err-need_word-clause-reads t c = missing _ (reserved (codes "in") c.gap-self-2.result.now) c.args.depth c.gap-self-2.result.now c.from_residual-in_err-need_word.result c.from_residual-in_err-need_word.ensures.1 (λ h. (choice_of_n4 _ _ _ _ _ _ c.gap-self.ensures.same (sym c.is_word.ensures ∙ c.if-not-is_word.false) c.in_ok-word.ensures.reads.is c.gap-self-2.ensures.same h)) c.in_err-need_word.ensures.follows

pub choice-returns-in_err-cases-clause-reads : goal.choice-returns-in_err-cases-clause-reads
choice-returns-in_err-cases-clause-reads t c = exit c.from_residual-in_err-cases.result c.from_residual-in_err-cases.ensures.1 (λ k h. (choice_of_f5 _ _ _ _ _ _ _ _ _ c.gap-self.ensures.same (sym c.is_word.ensures ∙ c.if-not-is_word.false) c.in_ok-word.ensures.reads.is c.gap-self-2.ensures.same c.in_ok-need_word.ensures.follows h)) c.in_err-cases.ensures.reads

pub choice-returns-clause-reads : goal.choice-returns-clause-reads
choice-returns-clause-reads t c = record { is = (choice_of _ _ _ _ _ _ _ _ _ c.gap-self.ensures.same (sym c.is_word.ensures ∙ c.if-not-is_word.false) c.in_ok-word.ensures.reads.is c.gap-self-2.ensures.same c.in_ok-need_word.ensures.follows c.in_ok-cases.ensures.reads.is) }

pub command-returns-then-is_opening-clause-reads : goal.command-returns-then-is_opening-clause-reads
command-returns-then-is_opening-clause-reads t c = record { is = each_way (Answers (enclosed c.args.depth) c.args.self.now.rest.now c.enclosed.new.self.rest.now) (Answers (command c.args.depth) c.args.self.now.rest.now c.enclosed.new.self.rest.now) (λ v h. (command_enclosed _ _ _ _ (sym c.is_opening.ensures ∙ c.if-is_opening.true) h)) (λ k h. (command_enclosed_f1 _ _ _ _ (sym c.is_opening.ensures ∙ c.if-is_opening.true) h)) tt c.enclosed.result c.enclosed.ensures.reads.is }

pub command-returns-then-begins_nothing-clause-reads : goal.command-returns-then-begins_nothing-clause-reads
command-returns-then-begins_nothing-clause-reads t c = strayed c.args.self.now.rest.now c.args.depth c.stray.ensures.kind c.stray.ensures.place (command_nothing _ _ (sym c.is_opening.ensures ∙ c.if-is_opening.false) (sym c.begins_nothing.ensures ∙ c.if-begins_nothing.true))

pub command-returns-in-Some-clause-reads : goal.command-returns-in-Some-clause-reads
command-returns-in-Some-clause-reads t c = record { is = each_way (Answers (function c.args.depth) c.args.self.now.rest.now c.function.new.self.rest.now) (Answers (command c.args.depth) c.args.self.now.rest.now c.function.new.self.rest.now) (λ v h. (command_function _ _ _ _ _ (sym c.is_opening.ensures ∙ c.if-is_opening.false) (sym c.begins_nothing.ensures ∙ c.if-begins_nothing.false) c.in-Some.ensures.same h)) (λ k h. (command_function_f3 _ _ _ _ _ (sym c.is_opening.ensures ∙ c.if-is_opening.false) (sym c.begins_nothing.ensures ∙ c.if-begins_nothing.false) c.in-Some.ensures.same h)) tt c.function.result c.function.ensures.reads.is }

pub command-returns-in-None-clause-reads : goal.command-returns-in-None-clause-reads
command-returns-in-None-clause-reads t c = record { is = each_way (AnswersSimple c.args.depth c.args.self.now.rest.now c.simple.new.self.rest.now) (Answers (command c.args.depth) c.args.self.now.rest.now c.simple.new.self.rest.now) (λ v h. subst (λ (z : Command). Reads (command c.args.depth) c.args.self.now.rest.now (done z c.simple.new.self.rest.now)) (sym h.2) (command_simple _ _ _ _ (sym c.is_opening.ensures ∙ c.if-is_opening.false) (sym c.begins_nothing.ensures ∙ c.if-begins_nothing.false) c.in-None.ensures.same h.1)) (λ k h. (command_simple_f3 _ _ _ _ (sym c.is_opening.ensures ∙ c.if-is_opening.false) (sym c.begins_nothing.ensures ∙ c.if-begins_nothing.false) c.in-None.ensures.same h)) tt c.simple.result c.simple.ensures.reads.is }

pub commands-returns-in_err-command-clause-reads : goal.commands-returns-in_err-command-clause-reads
commands-returns-in_err-command-clause-reads t c = exit c.from_residual.result c.from_residual.ensures.1 (λ k h. (c.commands.invariant.1.breaks _ _ (commands_of_f0 _ _ _ _ h))) c.in_err-command.ensures.reads

pub commands-returns-in_err-push-clause-reads : goal.commands-returns-in_err-push-clause-reads
commands-returns-in_err-push-clause-reads t c = full c.from_residual-in_err-push.result c.from_residual-in_err-push.ensures.1 c.in_err-push.ensures

pub commands-returns-in-None-clause-reads : goal.commands-returns-in-None-clause-reads
commands-returns-in-None-clause-reads t c = ends c.commands.invariant.1 (commands_of _ _ _ _ _ _ c.in_ok-command.ensures.reads.is (piped_end _ _ _ c.gap-self.ensures.same c.in-None.ensures.same)) (sym c.in_ok-push.ensures)

pub compound-returns-then-depth-eq0-clause-reads : goal.compound-returns-then-depth-eq0-clause-reads
compound-returns-then-depth-eq0-clause-reads t c = record { is = (compound_deep _ _ (no_depth c.args.depth c.if-depth-eq0.true)) }

pub compound-returns-clause-reads : goal.compound-returns-clause-reads
compound-returns-clause-reads t c = record { is = each_way (AnswersForm c.opening_at-opening.result (c.args.depth - 1) c.args.self.now.rest.now c.form.new.self.rest.now) (Answers (compound c.args.depth) c.args.self.now.rest.now c.form.new.self.rest.now) (λ v h. compound_of _ _ _ (some_depth c.args.depth c.if-depth-eq0.false) (subst (λ (o : Opening). Runs (compound c.args.depth) (compound_by o (c.args.depth - 1) c.args.self.now.rest.now) (done v c.form.new.self.rest.now)) c.opening_at-opening.ensures (h c.args.depth))) (λ k h. compound_of _ _ _ (some_depth c.args.depth c.if-depth-eq0.false) (subst (λ (o : Opening). Runs (compound c.args.depth) (compound_by o (c.args.depth - 1) c.args.self.now.rest.now) (faulty k c.form.new.self.rest.now)) c.opening_at-opening.ensures (h c.args.depth))) tt c.form.result c.form.ensures.reads.is }

pub do_group-returns-in_err-need_word-clause-reads : goal.do_group-returns-in_err-need_word-clause-reads
do_group-returns-in_err-need_word-clause-reads t c = missing _ (reserved (codes "do") c.args.self.now.rest.now) c.args.depth c.args.self.now.rest.now c.from_residual.result c.from_residual.ensures.1 (λ h. (do_group_of_n0 _ _ h)) c.in_err-need_word.ensures.follows

pub do_group-returns-in_err-body-clause-reads : goal.do_group-returns-in_err-body-clause-reads
do_group-returns-in_err-body-clause-reads t c = exit c.from_residual-in_err-body.result c.from_residual-in_err-body.ensures.1 (λ k h. (do_group_of_f1 _ _ _ _ _ c.in_ok-need_word.ensures.follows h)) c.in_err-body.ensures.reads

pub do_group-returns-in_err-need_word-2-clause-reads : goal.do_group-returns-in_err-need_word-2-clause-reads
do_group-returns-in_err-need_word-2-clause-reads t c = missing _ (reserved (codes "done") c.some_list.new.self.rest.now) c.args.depth c.some_list.new.self.rest.now c.from_residual-in_err-need_word-2.result c.from_residual-in_err-need_word-2.ensures.1 (λ h. (do_group_of_n2 _ _ _ _ _ c.in_ok-need_word.ensures.follows c.in_ok-body.ensures.reads.is h)) c.in_err-need_word-2.ensures.follows

pub do_group-returns-clause-reads : goal.do_group-returns-clause-reads
do_group-returns-clause-reads t c = record { is = (do_group_of _ _ _ _ _ _ c.in_ok-need_word.ensures.follows c.in_ok-body.ensures.reads.is c.in_ok-need_word-2.ensures.follows) }

pub dollar-returns-in_err-param-in-Name-clause-reads : goal.dollar-returns-in_err-param-in-Name-clause-reads
dollar-returns-in_err-param-in-Name-clause-reads t c = full c.from_residual.result c.from_residual.ensures.1 c.in_err-param-in-Name.ensures

pub dollar-returns-in_err-param-in-Sign-clause-reads : goal.dollar-returns-in_err-param-in-Sign-clause-reads
dollar-returns-in_err-param-in-Sign-clause-reads t c = full c.from_residual-in_err-param-in-Sign.result c.from_residual-in_err-param-in-Sign.ensures.1 c.in_err-param-in-Sign.ensures

pub dollar-returns-in-Paren-clause-reads : goal.dollar-returns-in-Paren-clause-reads
dollar-returns-in-Paren-clause-reads t c = record { is = each_way (Answers (substitution c.args.quoted c.args.depth) c.args.self.now.rest.now c.substitution.new.self.rest.now) (Answers (dollar c.args.quoted c.args.depth) c.args.self.now.rest.now c.substitution.new.self.rest.now) (λ v h. (dollar_paren _ _ _ _ _ _ (dollar_text c.args.self.now.rest.now _ _ c.tail.ensures.same c.joined-inner.ensures.same) (sym c.in-Paren.ensures) h)) (λ k h. (dollar_paren_f2 _ _ _ _ _ _ (dollar_text c.args.self.now.rest.now _ _ c.tail.ensures.same c.joined-inner.ensures.same) (sym c.in-Paren.ensures) h)) tt c.substitution.result c.substitution.ensures.reads.is }

pub dollar-returns-in-Brace-clause-reads : goal.dollar-returns-in-Brace-clause-reads
dollar-returns-in-Brace-clause-reads t c = record { is = each_way (Answers (braces c.args.quoted c.args.depth) c.args.self.now.rest.now c.braces.new.self.rest.now) (Answers (dollar c.args.quoted c.args.depth) c.args.self.now.rest.now c.braces.new.self.rest.now) (λ v h. (dollar_brace _ _ _ _ _ _ (dollar_text c.args.self.now.rest.now _ _ c.tail.ensures.same c.joined-inner.ensures.same) (sym c.in-Brace.ensures) h)) (λ k h. (dollar_brace_f2 _ _ _ _ _ _ (dollar_text c.args.self.now.rest.now _ _ c.tail.ensures.same c.joined-inner.ensures.same) (sym c.in-Brace.ensures) h)) tt c.braces.result c.braces.ensures.reads.is }

pub dollar-returns-in-LeftOut-clause-reads : goal.dollar-returns-in-LeftOut-clause-reads
dollar-returns-in-LeftOut-clause-reads t c = record { is = (dollar_left_out _ _ _ _ (dollar_text c.args.self.now.rest.now _ _ c.tail.ensures.same c.joined-inner.ensures.same) (sym c.in-LeftOut.ensures)) }

pub dollar-returns-in_ok-param-in-Name-clause-reads : goal.dollar-returns-in_ok-param-in-Name-clause-reads
dollar-returns-in_ok-param-in-Name-clause-reads t c = record { is = rw (c.plain.ensures, c.in_ok-param-in-Name.ensures, c.past_subject-self.ensures.same) (dollar_name _ _ _ _ (dollar_text c.args.self.now.rest.now _ _ c.tail.ensures.same c.joined-inner.ensures.same) (sym c.in-Name.ensures)) }

pub dollar-returns-in-Digit-clause-reads : goal.dollar-returns-in-Digit-clause-reads
dollar-returns-in-Digit-clause-reads t c = record { is = rw (c.plain-in-Digit.ensures, c.digit.ensures, c.tail-self.ensures.same) (dollar_digit _ _ _ _ (dollar_text c.args.self.now.rest.now _ _ c.tail.ensures.same c.joined-inner.ensures.same) (sym c.in-Digit.ensures)) }

pub dollar-returns-in_ok-param-in-Sign-clause-reads : goal.dollar-returns-in_ok-param-in-Sign-clause-reads
dollar-returns-in_ok-param-in-Sign-clause-reads t c = record { is = rw (c.plain-in-Sign.ensures, c.in_ok-param-in-Sign.ensures, c.tail-self-in-Sign.ensures.same) (dollar_sign _ _ _ _ (dollar_text c.args.self.now.rest.now _ _ c.tail.ensures.same c.joined-inner.ensures.same) (sym c.in-Sign.ensures)) }

pub dollar-returns-in-Plain-clause-reads : goal.dollar-returns-in-Plain-clause-reads
dollar-returns-in-Plain-clause-reads t c = record { is = (dollar_itself _ _ _ _ (dollar_text c.args.self.now.rest.now _ _ c.tail.ensures.same c.joined-inner.ensures.same) (sym c.in-Plain.ensures)) }

pub each-returns-then-not-is_name-clause-reads : goal.each-returns-then-not-is_name-clause-reads
each-returns-then-not-is_name-clause-reads t c = strayed c.gap-self.result.now c.args.depth c.stray.ensures.kind c.stray.ensures.place (each_stray _ _ _ c.gap-self.ensures.same (sym c.is_name.ensures ∙ c.if-not-is_name.true))

pub each-returns-in_err-name-clause-reads : goal.each-returns-in_err-name-clause-reads
each-returns-in_err-name-clause-reads t c = full c.from_residual.result c.from_residual.ensures.1 c.in_err-name.ensures

pub each-returns-in_err-words-clause-reads : goal.each-returns-in_err-words-clause-reads
each-returns-in_err-words-clause-reads t c = exit c.from_residual-in_err-words.result c.from_residual-in_err-words.ensures.1 (λ k h. (each_of_f3 _ _ _ _ _ _ c.gap-self.ensures.same (sym c.is_name.ensures ∙ c.if-not-is_name.false) (each_text _ _ _ c.past.ensures.same c.gap-self-2.ensures.same) h)) c.in_err-words.ensures.reads

pub each-returns-in_err-body-clause-reads : goal.each-returns-in_err-body-clause-reads
each-returns-in_err-body-clause-reads t c = exit c.from_residual-in_err-body.result c.from_residual-in_err-body.ensures.1 (λ k h. (each_of_f4 _ _ _ _ _ _ _ _ c.gap-self.ensures.same (sym c.is_name.ensures ∙ c.if-not-is_name.false) (each_text _ _ _ c.past.ensures.same c.gap-self-2.ensures.same) c.in_ok-words.ensures.reads.is h)) c.in_err-body.ensures.reads

pub each-returns-clause-reads : goal.each-returns-clause-reads
each-returns-clause-reads t c = record { is = rw c.in_ok-name.ensures (each_of _ _ _ _ _ _ _ _ c.gap-self.ensures.same (sym c.is_name.ensures ∙ c.if-not-is_name.false) (each_text _ _ _ c.past.ensures.same c.gap-self-2.ensures.same) c.in_ok-words.ensures.reads.is c.in_ok-body.ensures.reads.is) }

pub each_words-returns-in_err-words-in-Some-reserved-clause-reads : goal.each_words-returns-in_err-words-in-Some-reserved-clause-reads
each_words-returns-in_err-words-in-Some-reserved-clause-reads t c = exit c.from_residual.result c.from_residual.ensures.1 (λ k h. (each_words_in_f3 _ _ _ _ _ _ c.in-None.ensures.same c.gap-self-in-None.ensures.same c.in-Some-reserved.ensures.same h)) c.in_err-words-in-Some-reserved.ensures.reads

pub each_words-returns-in_err-end_words-in-Some-reserved-clause-reads : goal.each_words-returns-in_err-end_words-in-Some-reserved-clause-reads
each_words-returns-in_err-end_words-in-Some-reserved-clause-reads t c = stuck_words _ c.args.depth c.words.new.self.rest.now c.from_residual-in_err-end_words-in-Some-reserved.result c.from_residual-in_err-end_words-in-Some-reserved.ensures.1 (λ k h. (each_words_stuck _ _ _ _ _ _ _ _ c.in-None.ensures.same c.gap-self-in-None.ensures.same c.in-Some-reserved.ensures.same c.in_ok-words-in-Some-reserved.ensures.reads.is (h _))) c.in_err-end_words-in-Some-reserved.ensures.ends

pub each_words-returns-in-Some-clause-reads : goal.each_words-returns-in-Some-clause-reads
each_words-returns-in-Some-clause-reads t c = record { is = (each_words_semicolon _ _ _ _ c.in-Some.ensures.same c.gap-self.ensures.same) }

pub each_words-returns-in-None-reserved-clause-reads : goal.each_words-returns-in-None-reserved-clause-reads
each_words-returns-in-None-reserved-clause-reads t c = record { is = (each_words_none _ _ _ c.in-None.ensures.same c.gap-self-in-None.ensures.same c.in-None-reserved.ensures.same) }

pub each_words-returns-in_ok-end_words-in-Some-reserved-clause-reads : goal.each_words-returns-in_ok-end_words-in-Some-reserved-clause-reads
each_words-returns-in_ok-end_words-in-Some-reserved-clause-reads t c = record { is = (each_words_in _ _ _ _ _ _ _ c.in-None.ensures.same c.gap-self-in-None.ensures.same c.in-Some-reserved.ensures.same c.in_ok-words-in-Some-reserved.ensures.reads.is (c.in_ok-end_words-in-Some-reserved.ensures.ends _)) }

pub enclosed-returns-in_err-form-clause-reads : goal.enclosed-returns-in_err-form-clause-reads
enclosed-returns-in_err-form-clause-reads t c = exit c.from_residual.result c.from_residual.ensures.1 (λ k h. (enclosed_of_f0 _ _ _ _ h)) c.in_err-form.ensures.reads

pub enclosed-returns-in_err-redirs-clause-reads : goal.enclosed-returns-in_err-redirs-clause-reads
enclosed-returns-in_err-redirs-clause-reads t c = exit c.from_residual-in_err-redirs.result c.from_residual-in_err-redirs.ensures.1 (λ k h. (enclosed_of_f1 _ _ _ _ _ _ c.in_ok-form.ensures.reads.is h)) c.in_err-redirs.ensures.reads

pub enclosed-returns-then-is_stuck-clause-reads : goal.enclosed-returns-then-is_stuck-clause-reads
enclosed-returns-then-is_stuck-clause-reads t c = strayed c.redirs.new.self.rest.now c.args.depth c.stray.ensures.kind c.stray.ensures.place (enclosed_stuck _ _ _ _ _ _ c.in_ok-form.ensures.reads.is c.in_ok-redirs.ensures.reads.is (sym (c.is_stuck.ensures ∙ ap (λ b. is_stuck b c.redirs.new.self.rest.now) c.is_bare.ensures) ∙ c.if-is_stuck.true))

pub enclosed-returns-clause-reads : goal.enclosed-returns-clause-reads
enclosed-returns-clause-reads t c = record { is = (enclosed_of _ _ _ _ _ _ c.in_ok-form.ensures.reads.is c.in_ok-redirs.ensures.reads.is (sym (c.is_stuck.ensures ∙ ap (λ b. is_stuck b c.redirs.new.self.rest.now) c.is_bare.ensures) ∙ c.if-is_stuck.false)) }

pub form-returns-in_err-need-in-Subshell-clause-reads : goal.form-returns-in_err-need-in-Subshell-clause-reads
form-returns-in_err-need-in-Subshell-clause-reads t c = opened_by c.in-Subshell.is (missing_form _ (follow (codes "(") c.args.self.now.rest.now) c.args.depth c.args.self.now.rest.now c.from_residual.result c.from_residual.ensures.1 (λ h. λ m. (form_subshell_n0 _ _ _ h)) c.in_err-need-in-Subshell.ensures.follows)

pub form-returns-in_err-list-in-Subshell-clause-reads : goal.form-returns-in_err-list-in-Subshell-clause-reads
form-returns-in_err-list-in-Subshell-clause-reads t c = opened_by c.in-Subshell.is (exit_form c.from_residual-in_err-list-in-Subshell.result c.from_residual-in_err-list-in-Subshell.ensures.1 (λ k h. λ m. (form_subshell_f1 _ _ _ _ _ _ c.in_ok-need-in-Subshell.ensures.follows h)) c.in_err-list-in-Subshell.ensures.reads)

pub form-returns-in_err-need-in-Subshell-2-clause-reads : goal.form-returns-in_err-need-in-Subshell-2-clause-reads
form-returns-in_err-need-in-Subshell-2-clause-reads t c = opened_by c.in-Subshell.is (missing_form _ (follow (codes ")") c.some_list.new.self.rest.now) c.args.depth c.some_list.new.self.rest.now c.from_residual-in_err-need-in-Subshell-2.result c.from_residual-in_err-need-in-Subshell-2.ensures.1 (λ h. λ m. (form_subshell_n2 _ _ _ _ _ _ c.in_ok-need-in-Subshell.ensures.follows c.in_ok-list-in-Subshell.ensures.reads.is h)) c.in_err-need-in-Subshell-2.ensures.follows)

pub form-returns-in_err-need_word-in-Group-clause-reads : goal.form-returns-in_err-need_word-in-Group-clause-reads
form-returns-in_err-need_word-in-Group-clause-reads t c = opened_by c.in-Group.is (missing_form _ (reserved (codes "{") c.args.self.now.rest.now) c.args.depth c.args.self.now.rest.now c.from_residual-in_err-need_word-in-Group.result c.from_residual-in_err-need_word-in-Group.ensures.1 (λ h. λ m. (form_group_n0 _ _ _ h)) c.in_err-need_word-in-Group.ensures.follows)

pub form-returns-in_err-list-in-Group-clause-reads : goal.form-returns-in_err-list-in-Group-clause-reads
form-returns-in_err-list-in-Group-clause-reads t c = opened_by c.in-Group.is (exit_form c.from_residual-in_err-list-in-Group.result c.from_residual-in_err-list-in-Group.ensures.1 (λ k h. λ m. (form_group_f1 _ _ _ _ _ _ c.in_ok-need_word-in-Group.ensures.follows h)) c.in_err-list-in-Group.ensures.reads)

pub form-returns-in_err-need_word-in-Group-2-clause-reads : goal.form-returns-in_err-need_word-in-Group-2-clause-reads
form-returns-in_err-need_word-in-Group-2-clause-reads t c = opened_by c.in-Group.is (missing_form _ (reserved (codes "}") c.some_list-in-Group.new.self.rest.now) c.args.depth c.some_list-in-Group.new.self.rest.now c.from_residual-in_err-need_word-in-Group-2.result c.from_residual-in_err-need_word-in-Group-2.ensures.1 (λ h. λ m. (form_group_n2 _ _ _ _ _ _ c.in_ok-need_word-in-Group.ensures.follows c.in_ok-list-in-Group.ensures.reads.is h)) c.in_err-need_word-in-Group-2.ensures.follows)

pub form-returns-in_err-need_word-in-If-clause-reads : goal.form-returns-in_err-need_word-in-If-clause-reads
form-returns-in_err-need_word-in-If-clause-reads t c = opened_by c.in-If.is (missing_form _ (reserved (codes "if") c.args.self.now.rest.now) c.args.depth c.args.self.now.rest.now c.from_residual-in_err-need_word-in-If.result c.from_residual-in_err-need_word-in-If.ensures.1 (λ h. λ m. (form_if_n0 _ _ _ h)) c.in_err-need_word-in-If.ensures.follows)

pub form-returns-in_err-need_word-in-While-clause-reads : goal.form-returns-in_err-need_word-in-While-clause-reads
form-returns-in_err-need_word-in-While-clause-reads t c = opened_by c.in-While.is (missing_form _ (reserved (codes "while") c.args.self.now.rest.now) c.args.depth c.args.self.now.rest.now c.from_residual-in_err-need_word-in-While.result c.from_residual-in_err-need_word-in-While.ensures.1 (λ h. λ m. (form_while_n0 _ _ _ h)) c.in_err-need_word-in-While.ensures.follows)

pub form-returns-in_err-need_word-in-Until-clause-reads : goal.form-returns-in_err-need_word-in-Until-clause-reads
form-returns-in_err-need_word-in-Until-clause-reads t c = opened_by c.in-Until.is (missing_form _ (reserved (codes "until") c.args.self.now.rest.now) c.args.depth c.args.self.now.rest.now c.from_residual-in_err-need_word-in-Until.result c.from_residual-in_err-need_word-in-Until.ensures.1 (λ h. λ m. (form_until_n0 _ _ _ h)) c.in_err-need_word-in-Until.ensures.follows)

pub form-returns-in_err-need_word-in-For-clause-reads : goal.form-returns-in_err-need_word-in-For-clause-reads
form-returns-in_err-need_word-in-For-clause-reads t c = opened_by c.in-For.is (missing_form _ (reserved (codes "for") c.args.self.now.rest.now) c.args.depth c.args.self.now.rest.now c.from_residual-in_err-need_word-in-For.result c.from_residual-in_err-need_word-in-For.ensures.1 (λ h. λ m. (form_for_n0 _ _ _ h)) c.in_err-need_word-in-For.ensures.follows)

pub form-returns-in_err-need_word-in-Case-clause-reads : goal.form-returns-in_err-need_word-in-Case-clause-reads
form-returns-in_err-need_word-in-Case-clause-reads t c = opened_by c.in-Case.is (missing_form _ (reserved (codes "case") c.args.self.now.rest.now) c.args.depth c.args.self.now.rest.now c.from_residual-in_err-need_word-in-Case.result c.from_residual-in_err-need_word-in-Case.ensures.1 (λ h. λ m. (form_case_n0 _ _ _ h)) c.in_err-need_word-in-Case.ensures.follows)

pub form-returns-in_ok-need-in-Subshell-2-clause-reads : goal.form-returns-in_ok-need-in-Subshell-2-clause-reads
form-returns-in_ok-need-in-Subshell-2-clause-reads t c = opened_by c.in-Subshell.is (record { is = λ m. (form_subshell _ _ _ _ _ _ _ c.in_ok-need-in-Subshell.ensures.follows c.in_ok-list-in-Subshell.ensures.reads.is c.in_ok-need-in-Subshell-2.ensures.follows) })

pub form-returns-in_ok-need_word-in-Group-2-clause-reads : goal.form-returns-in_ok-need_word-in-Group-2-clause-reads
form-returns-in_ok-need_word-in-Group-2-clause-reads t c = opened_by c.in-Group.is (record { is = λ m. (form_group _ _ _ _ _ _ _ c.in_ok-need_word-in-Group.ensures.follows c.in_ok-list-in-Group.ensures.reads.is c.in_ok-need_word-in-Group-2.ensures.follows) })

pub form-returns-in_ok-need_word-in-If-clause-reads : goal.form-returns-in_ok-need_word-in-If-clause-reads
form-returns-in_ok-need_word-in-If-clause-reads t c = opened_by c.in-If.is (record { is = each_way (AnswersBranches c.args.depth c.need_word-in-If.new.self.rest.now c.branches.new.self.rest.now) (AnswersForm OpenIf c.args.depth c.args.self.now.rest.now c.branches.new.self.rest.now) (λ v h m. subst (λ (z : Form). Runs (compound m) (compound_by OpenIf c.args.depth c.args.self.now.rest.now) (done z c.branches.new.self.rest.now)) (sym h.2) (form_if _ _ _ _ _ _ c.in_ok-need_word-in-If.ensures.follows h.1)) (λ k h m. (form_if_f1 _ _ _ _ _ _ c.in_ok-need_word-in-If.ensures.follows h)) tt c.branches.result c.branches.ensures.reads.is })

pub form-returns-in_ok-need_word-in-While-clause-reads : goal.form-returns-in_ok-need_word-in-While-clause-reads
form-returns-in_ok-need_word-in-While-clause-reads t c = opened_by c.in-While.is (record { is = each_way (Answers (turns false c.args.depth) c.need_word-in-While.new.self.rest.now c.turns.new.self.rest.now) (AnswersForm OpenWhile c.args.depth c.args.self.now.rest.now c.turns.new.self.rest.now) (λ v h m. (form_while _ _ _ _ _ _ c.in_ok-need_word-in-While.ensures.follows h)) (λ k h m. (form_while_f1 _ _ _ _ _ _ c.in_ok-need_word-in-While.ensures.follows h)) tt c.turns.result c.turns.ensures.reads.is })

pub form-returns-in_ok-need_word-in-Until-clause-reads : goal.form-returns-in_ok-need_word-in-Until-clause-reads
form-returns-in_ok-need_word-in-Until-clause-reads t c = opened_by c.in-Until.is (record { is = each_way (Answers (turns true c.args.depth) c.need_word-in-Until.new.self.rest.now c.turns-in-Until.new.self.rest.now) (AnswersForm OpenUntil c.args.depth c.args.self.now.rest.now c.turns-in-Until.new.self.rest.now) (λ v h m. (form_until _ _ _ _ _ _ c.in_ok-need_word-in-Until.ensures.follows h)) (λ k h m. (form_until_f1 _ _ _ _ _ _ c.in_ok-need_word-in-Until.ensures.follows h)) tt c.turns-in-Until.result c.turns-in-Until.ensures.reads.is })

pub form-returns-in_ok-need_word-in-For-clause-reads : goal.form-returns-in_ok-need_word-in-For-clause-reads
form-returns-in_ok-need_word-in-For-clause-reads t c = opened_by c.in-For.is (record { is = each_way (Answers (each c.args.depth) c.need_word-in-For.new.self.rest.now c.each.new.self.rest.now) (AnswersForm OpenFor c.args.depth c.args.self.now.rest.now c.each.new.self.rest.now) (λ v h m. (form_for _ _ _ _ _ _ c.in_ok-need_word-in-For.ensures.follows h)) (λ k h m. (form_for_f1 _ _ _ _ _ _ c.in_ok-need_word-in-For.ensures.follows h)) tt c.each.result c.each.ensures.reads.is })

pub form-returns-in_ok-need_word-in-Case-clause-reads : goal.form-returns-in_ok-need_word-in-Case-clause-reads
form-returns-in_ok-need_word-in-Case-clause-reads t c = opened_by c.in-Case.is (record { is = each_way (Answers (choice c.args.depth) c.need_word-in-Case.new.self.rest.now c.choice.new.self.rest.now) (AnswersForm OpenCase c.args.depth c.args.self.now.rest.now c.choice.new.self.rest.now) (λ v h m. (form_case _ _ _ _ _ _ c.in_ok-need_word-in-Case.ensures.follows h)) (λ k h m. (form_case_f1 _ _ _ _ _ _ c.in_ok-need_word-in-Case.ensures.follows h)) tt c.choice.result c.choice.ensures.reads.is })

pub form-returns-in-Nothing-clause-reads : goal.form-returns-in-Nothing-clause-reads
form-returns-in-Nothing-clause-reads t c = opened_by c.in-Nothing.is (record { is = subst (λ (e : Failed). AnswersForm OpenNothing c.args.depth c.args.self.now.rest.now c.stray.new.self.rest.now (Err e)) (sym c.stray.ensures.kind) (λ m. subst (λ (z : Text). Runs (compound m) (compound_by OpenNothing c.args.depth c.args.self.now.rest.now) (faulty (stray_kind c.args.depth c.args.self.now.rest.now) z)) (sym c.stray.ensures.place) (form_nothing _ _ _)) })

pub function-returns-in_err-name-clause-reads : goal.function-returns-in_err-name-clause-reads
function-returns-in_err-name-clause-reads t c = full c.from_residual.result c.from_residual.ensures.1 c.in_err-name.ensures

pub function-returns-in_err-need-clause-reads : goal.function-returns-in_err-need-clause-reads
function-returns-in_err-need-clause-reads t c = missing _ (follow (codes ")") c.gap-self.result.now) c.args.depth c.gap-self.result.now c.from_residual-in_err-need.result c.from_residual-in_err-need.ensures.1 (λ h. (function_of_n2 _ _ _ _ c.requires.follows c.gap-self.ensures.same h)) c.in_err-need.ensures.follows

pub function-returns-then-not-is_opening-clause-reads : goal.function-returns-then-not-is_opening-clause-reads
function-returns-then-not-is_opening-clause-reads t c = strayed c.gap-self-2.result.now c.args.depth c.stray.ensures.kind c.stray.ensures.place (function_stray _ _ _ _ _ _ c.requires.follows c.gap-self.ensures.same c.in_ok-need.ensures.follows c.gap-self-2.ensures.same (sym c.is_opening.ensures ∙ c.if-not-is_opening.true))

pub function-returns-in_err-body-clause-reads : goal.function-returns-in_err-body-clause-reads
function-returns-in_err-body-clause-reads t c = exit c.from_residual-in_err-body.result c.from_residual-in_err-body.ensures.1 (λ k h. (function_of_f5 _ _ _ _ _ _ _ _ c.requires.follows c.gap-self.ensures.same c.in_ok-need.ensures.follows c.gap-self-2.ensures.same (sym c.is_opening.ensures ∙ c.if-not-is_opening.false) h)) c.in_err-body.ensures.reads

pub function-returns-in-Ok-clause-reads : goal.function-returns-in-Ok-clause-reads
function-returns-in-Ok-clause-reads t c = record { is = rw (c.in_ok-name.ensures, c.in-Ok.ensures, c.new-in-Ok.ensures) (function_of _ _ _ _ _ _ _ _ c.requires.follows c.gap-self.ensures.same c.in_ok-need.ensures.follows c.gap-self-2.ensures.same (sym c.is_opening.ensures ∙ c.if-not-is_opening.false) c.in_ok-body.ensures.reads.is) }

pub list-returns-then-ends_list-clause-reads : goal.list-returns-then-ends_list-clause-reads
list-returns-then-ends_list-clause-reads t c = ends c.items.invariant.1 (list_ends _ _ _ c.gap-self.ensures.same (sym c.ends_list.ensures ∙ c.if-ends_list.true)) (append_nil c.items.all)

pub list-returns-in_err-item-clause-reads : goal.list-returns-in_err-item-clause-reads
list-returns-in_err-item-clause-reads t c = exit c.from_residual.result c.from_residual.ensures.1 (λ k h. (c.items.invariant.1.breaks _ _ (list_f _ _ _ _ _ c.gap-self.ensures.same (sym c.ends_list.ensures ∙ c.if-ends_list.false) h))) c.in_err-item.ensures.reads

pub list-returns-in_err-push-clause-reads : goal.list-returns-in_err-push-clause-reads
list-returns-in_err-push-clause-reads t c = full c.from_residual-in_err-push.result c.from_residual-in_err-push.ensures.1 c.in_err-push.ensures

pub list-returns-then-ends_list-2-clause-reads : goal.list-returns-then-ends_list-2-clause-reads
list-returns-then-ends_list-2-clause-reads t c = ends c.items.invariant.1 (list_item _ _ _ _ _ _ _ c.gap-self.ensures.same (sym c.ends_list.ensures ∙ c.if-ends_list.false) c.in_ok-item.ensures.reads.is (after_ends _ _ _ c.gap-self-in-items.ensures.same (sym c.ends_list-in-items.ensures ∙ c.if-ends_list-2.true))) (sym c.in_ok-push.ensures)

pub list-returns-in_err-separator-clause-reads : goal.list-returns-in_err-separator-clause-reads
list-returns-in_err-separator-clause-reads t c = stuck_list _ c.args.depth c.gap-self-in-items.result.now c.from_residual-in_err-separator.result c.from_residual-in_err-separator.ensures.1 (λ k h. (c.items.invariant.1.breaks _ _ (list_item_f _ _ _ _ _ _ _ c.gap-self.ensures.same (sym c.ends_list.ensures ∙ c.if-ends_list.false) c.in_ok-item.ensures.reads.is (after_stuck _ _ _ _ _ c.gap-self-in-items.ensures.same (sym c.ends_list-in-items.ensures ∙ c.if-ends_list-2.false) h)))) c.in_err-separator.ensures.separates

pub otherwise-returns-in_err-list-in-Some-clause-reads : goal.otherwise-returns-in_err-list-in-Some-clause-reads
otherwise-returns-in_err-list-in-Some-clause-reads t c = exit c.from_residual.result c.from_residual.ensures.1 (λ k h. (otherwise_else_f1 _ _ _ _ _ c.in-Some.ensures.same h)) c.in_err-list-in-Some.ensures.reads

pub otherwise-returns-in_err-need_word-in-Some-clause-reads : goal.otherwise-returns-in_err-need_word-in-Some-clause-reads
otherwise-returns-in_err-need_word-in-Some-clause-reads t c = missing _ (reserved (codes "fi") c.some_list.new.self.rest.now) c.args.depth c.some_list.new.self.rest.now c.from_residual-in_err-need_word-in-Some.result c.from_residual-in_err-need_word-in-Some.ensures.1 (λ h. (otherwise_else_n2 _ _ _ _ _ c.in-Some.ensures.same c.in_ok-list-in-Some.ensures.reads.is h)) c.in_err-need_word-in-Some.ensures.follows

pub otherwise-returns-in_err-need_word-in-None-clause-reads : goal.otherwise-returns-in_err-need_word-in-None-clause-reads
otherwise-returns-in_err-need_word-in-None-clause-reads t c = missing _ (reserved (codes "fi") c.args.self.now.rest.now) c.args.depth c.args.self.now.rest.now c.from_residual-in_err-need_word-in-None.result c.from_residual-in_err-need_word-in-None.ensures.1 (λ h. (otherwise_fi_n1 _ _ c.in-None.ensures.same h)) c.in_err-need_word-in-None.ensures.follows

pub otherwise-returns-in_ok-need_word-in-Some-clause-reads : goal.otherwise-returns-in_ok-need_word-in-Some-clause-reads
otherwise-returns-in_ok-need_word-in-Some-clause-reads t c = record { is = (otherwise_else _ _ _ _ _ _ c.in-Some.ensures.same c.in_ok-list-in-Some.ensures.reads.is c.in_ok-need_word-in-Some.ensures.follows) }

pub otherwise-returns-in_ok-need_word-in-None-clause-reads : goal.otherwise-returns-in_ok-need_word-in-None-clause-reads
otherwise-returns-in_ok-need_word-in-None-clause-reads t c = record { is = (otherwise_fi _ _ _ c.in-None.ensures.same c.in_ok-need_word-in-None.ensures.follows) }

pub parts-returns-then-stops_at-clause-reads : goal.parts-returns-then-stops_at-clause-reads
parts-returns-then-stops_at-clause-reads t c = ends c.parts.invariant.1 (parts_end _ _ _ _ c.joined-self.ensures.same (sym c.stops_at.ensures ∙ c.if-stops_at.true)) (append_nil c.parts.parts)

pub parts-returns-in_err-more-clause-reads : goal.parts-returns-in_err-more-clause-reads
parts-returns-in_err-more-clause-reads t c = exit c.from_residual.result c.from_residual.ensures.1 (λ k h. (c.parts.invariant.1.breaks _ _ (parts_more_f2 _ _ _ _ _ _ c.joined-self.ensures.same (sym c.stops_at.ensures ∙ c.if-stops_at.false) h))) c.in_err-more.ensures.reads

pub parts-returns-in_err-append-clause-reads : goal.parts-returns-in_err-append-clause-reads
parts-returns-in_err-append-clause-reads t c = full c.from_residual-in_err-append.result c.from_residual-in_err-append.ensures.1 c.in_err-append.ensures

pub patterns-returns-then-not-is_word-clause-reads : goal.patterns-returns-then-not-is_word-clause-reads
patterns-returns-then-not-is_word-clause-reads t c = strayed c.patterns.self.rest.now c.args.depth c.stray.ensures.kind c.stray.ensures.place (c.patterns.invariant.1.breaks _ _ (patterns_stray _ _ (sym c.is_word.ensures ∙ c.if-not-is_word.true)))

pub patterns-returns-in_err-pattern-clause-reads : goal.patterns-returns-in_err-pattern-clause-reads
patterns-returns-in_err-pattern-clause-reads t c = exit c.from_residual.result c.from_residual.ensures.1 (λ k h. (c.patterns.invariant.1.breaks _ _ (patterns_last_f1 _ _ _ _ (sym c.is_word.ensures ∙ c.if-not-is_word.false) h))) c.in_err-pattern.ensures.reads

pub patterns-returns-in_err-push-clause-reads : goal.patterns-returns-in_err-push-clause-reads
patterns-returns-in_err-push-clause-reads t c = full c.from_residual-in_err-push.result c.from_residual-in_err-push.ensures.1 c.in_err-push.ensures

pub patterns-returns-in-Some-clause-reads : goal.patterns-returns-in-Some-clause-reads
patterns-returns-in-Some-clause-reads t c = ends c.patterns.invariant.1 (patterns_last _ _ _ _ _ _ (sym c.is_word.ensures ∙ c.if-not-is_word.false) c.in_ok-pattern.ensures.reads.is c.gap-self.ensures.same c.in-Some.ensures.same) (sym c.in_ok-push.ensures)

pub patterns-returns-in-None-single_bar-clause-reads : goal.patterns-returns-in-None-single_bar-clause-reads
patterns-returns-in-None-single_bar-clause-reads t c = strayed c.gap-self.result.now c.args.depth c.stray-in-None-single_bar.ensures.kind c.stray-in-None-single_bar.ensures.place (c.patterns.invariant.1.breaks _ _ (patterns_stuck _ _ _ _ _ (sym c.is_word.ensures ∙ c.if-not-is_word.false) c.in_ok-pattern.ensures.reads.is c.gap-self.ensures.same c.in-None.ensures.same c.in-None-single_bar.ensures.same))

pub piece-returns-in-None-clause-reads : goal.piece-returns-in-None-clause-reads
piece-returns-in-None-clause-reads t c = record { is = (piece_none _ _ _ c.in-None.ensures) }

pub piece-returns-in_err-parts-in-Single-clause-reads : goal.piece-returns-in_err-parts-in-Single-clause-reads
piece-returns-in_err-parts-in-Single-clause-reads t c = exit c.from_residual.result c.from_residual.ensures.1 (λ k h. (piece_single_f2 _ _ _ _ _ _ _ c.in-Some.ensures (sym c.in-Single.ensures.same) h)) c.in_err-parts-in-Single.ensures.reads

pub piece-returns-in_err-parts-in-Double-clause-reads : goal.piece-returns-in_err-parts-in-Double-clause-reads
piece-returns-in_err-parts-in-Double-clause-reads t c = exit c.from_residual-in_err-parts-in-Double.result c.from_residual-in_err-parts-in-Double.ensures.1 (λ k h. (piece_double_f2 _ _ _ _ _ _ _ c.in-Some.ensures (sym c.in-Double.ensures.same) h)) c.in_err-parts-in-Double.ensures.reads

pub piece-returns-in_err-part-in-Dollar-clause-reads : goal.piece-returns-in_err-part-in-Dollar-clause-reads
piece-returns-in_err-part-in-Dollar-clause-reads t c = exit c.from_residual-in_err-part-in-Dollar.result c.from_residual-in_err-part-in-Dollar.ensures.1 (λ k h. (piece_dollar_f2 _ _ _ _ _ _ _ c.in-Some.ensures (sym c.in-Dollar.ensures.same) (subst (λ (b : Bool). Reads (dollar b c.args.depth) c.args.self.now.rest.now (faulty k c.dollar.new.self.rest.now)) c.is_quoted-in-Dollar.ensures h))) c.in_err-part-in-Dollar.ensures.reads

pub piece-returns-then-depth-eq0-clause-reads : goal.piece-returns-then-depth-eq0-clause-reads
piece-returns-then-depth-eq0-clause-reads t c = record { is = (piece_deep _ _ _ _ _ c.in-Some.ensures (sym c.in-Paren.ensures.same) (no_depth c.args.depth c.if-depth-eq0.true)) }

pub piece-returns-in_err-inner-in-Paren-clause-reads : goal.piece-returns-in_err-inner-in-Paren-clause-reads
piece-returns-in_err-inner-in-Paren-clause-reads t c = exit c.from_residual-in_err-inner-in-Paren.result c.from_residual-in_err-inner-in-Paren.ensures.1 (λ k h. (piece_paren_f3 _ _ _ _ _ _ _ c.in-Some.ensures (sym c.in-Paren.ensures.same) (some_depth c.args.depth c.if-depth-eq0.false) h)) c.in_err-inner-in-Paren.ensures.reads

pub piece-returns-in-Open-clause-reads : goal.piece-returns-in-Open-clause-reads
piece-returns-in-Open-clause-reads t c = record { is = (piece_open _ _ _ _ _ c.in-Some.ensures (sym c.in-Open.ensures.same)) }

pub piece-returns-in-Nul-clause-reads : goal.piece-returns-in-Nul-clause-reads
piece-returns-in-Nul-clause-reads t c = record { is = (piece_nul _ _ _ _ _ c.in-Some.ensures (sym c.in-Nul.ensures.same)) }

pub piece-returns-in-LeftOut-clause-reads : goal.piece-returns-in-LeftOut-clause-reads
piece-returns-in-LeftOut-clause-reads t c = record { is = (piece_left_out _ _ _ _ _ c.in-Some.ensures (sym c.in-LeftOut.ensures.same)) }

pub piece-returns-in-Plain-clause-reads : goal.piece-returns-in-Plain-clause-reads
piece-returns-in-Plain-clause-reads t c = built (piece_plain _ _ _ _ _ c.in-Some.ensures (sym c.in-Plain.ensures.same)) (subst (λ (b : Bool). MatchResult c.byte.result (λ ps. ps ≡ Byte c.in-Some.pair.0 b ∷ []) (λ e. e ≡ Memory)) c.is_quoted.ensures c.byte.ensures)

pub piece-returns-in-Escape-clause-reads : goal.piece-returns-in-Escape-clause-reads
piece-returns-in-Escape-clause-reads t c = record { is = each_way (Escapes c.in-Some.pair.1.now c.escaped.new.self.rest.now) (Answers (piece c.args.mode c.args.depth) c.args.self.now.rest.now c.escaped.new.self.rest.now) (λ v h. (piece_escape _ _ _ _ _ _ _ c.in-Some.ensures (sym c.in-Escape.ensures.same) h)) (λ k h. (piece_escape_stuck _ _ _ _ _ _ _ c.in-Some.ensures (sym c.in-Escape.ensures.same) h)) tt c.escaped.result c.escaped.ensures.escapes }

pub piece-returns-in_ok-parts-in-Single-clause-reads : goal.piece-returns-in_ok-parts-in-Single-clause-reads
piece-returns-in_ok-parts-in-Single-clause-reads t c = built (piece_single _ _ _ _ _ _ _ c.in-Some.ensures (sym c.in-Single.ensures.same) c.in_ok-parts-in-Single.ensures.reads.is) c.grouped.ensures

pub piece-returns-in_ok-parts-in-Double-clause-reads : goal.piece-returns-in_ok-parts-in-Double-clause-reads
piece-returns-in_ok-parts-in-Double-clause-reads t c = built (rw c.tail-self.ensures.same (piece_double _ _ _ _ _ _ _ c.in-Some.ensures (sym c.in-Double.ensures.same) c.in_ok-parts-in-Double.ensures.reads.is)) c.grouped-in-Double.ensures

pub piece-returns-in_ok-part-in-Dollar-clause-reads : goal.piece-returns-in_ok-part-in-Dollar-clause-reads
piece-returns-in_ok-part-in-Dollar-clause-reads t c = built (piece_dollar _ _ _ _ _ _ _ c.in-Some.ensures (sym c.in-Dollar.ensures.same) (subst (λ (b : Bool). Reads (dollar b c.args.depth) c.args.self.now.rest.now (done c.in_ok-part-in-Dollar.part c.dollar.new.self.rest.now)) c.is_quoted-in-Dollar.ensures c.in_ok-part-in-Dollar.ensures.reads.is)) c.one.ensures

pub piece-returns-in_ok-inner-in-Paren-clause-reads : goal.piece-returns-in_ok-inner-in-Paren-clause-reads
piece-returns-in_ok-inner-in-Paren-clause-reads t c = built (rw c.tail-self-in-Paren.ensures.same (piece_paren _ _ _ _ _ _ _ c.in-Some.ensures (sym c.in-Paren.ensures.same) (some_depth c.args.depth c.if-depth-eq0.false) c.in_ok-inner-in-Paren.ensures.reads.is)) c.parenthesised.ensures

pub pipeline-returns-in_err-commands-in-Some-clause-reads : goal.pipeline-returns-in_err-commands-in-Some-clause-reads
pipeline-returns-in_err-commands-in-Some-clause-reads t c = exit c.from_residual.result c.from_residual.ensures.1 (λ k h. (pipeline_not_f2 _ _ _ _ _ _ c.in-Some.ensures.same c.gap-self.ensures.same h)) c.in_err-commands-in-Some.ensures.reads

pub pipeline-returns-in_err-commands-in-None-clause-reads : goal.pipeline-returns-in_err-commands-in-None-clause-reads
pipeline-returns-in_err-commands-in-None-clause-reads t c = exit c.from_residual-in_err-commands-in-None.result c.from_residual-in_err-commands-in-None.ensures.1 (λ k h. (pipeline_plain_f1 _ _ _ _ c.in-None.ensures.same h)) c.in_err-commands-in-None.ensures.reads

pub pipeline-returns-in_ok-commands-in-Some-clause-reads : goal.pipeline-returns-in_ok-commands-in-Some-clause-reads
pipeline-returns-in_ok-commands-in-Some-clause-reads t c = record { is = (pipeline_not _ _ _ _ _ _ c.in-Some.ensures.same c.gap-self.ensures.same c.in_ok-commands-in-Some.ensures.reads.is) }

pub pipeline-returns-in_ok-commands-in-None-clause-reads : goal.pipeline-returns-in_ok-commands-in-None-clause-reads
pipeline-returns-in_ok-commands-in-None-clause-reads t c = record { is = (pipeline_plain _ _ _ _ c.in-None.ensures.same c.in_ok-commands-in-None.ensures.reads.is) }

pub simple-returns-in_err-redir-clause-reads : goal.simple-returns-in_err-redir-clause-reads
simple-returns-in_err-redir-clause-reads t c = exit_simple c.from_residual.result c.from_residual.ensures.1 (λ k h. (c.pieces.invariant.1.breaks _ _ (simple_redir_f2 _ _ _ _ _ _ c.gap-self.ensures.same (sym c.is_redirection.ensures ∙ c.if-is_redirection.true) h))) c.in_err-redir.ensures.reads

pub simple-returns-in_err-push-clause-reads : goal.simple-returns-in_err-push-clause-reads
simple-returns-in_err-push-clause-reads t c = full_simple c.from_residual-in_err-push.result c.from_residual-in_err-push.ensures.1 c.in_err-push.ensures

pub simple-returns-then-not-is_word-clause-reads : goal.simple-returns-then-not-is_word-clause-reads
simple-returns-then-not-is_word-clause-reads t c = record { is = (_, c.pieces.invariant.1.gives _ _ (simple_end _ _ _ _ c.gap-self.ensures.same (sym c.is_redirection.ensures ∙ c.if-is_redirection.false) (sym c.is_word.ensures ∙ c.if-not-is_word.true)), simple_whole c.pieces.assigns c.pieces.words c.pieces.redirs) }

pub simple-returns-in_err-assign-clause-reads : goal.simple-returns-in_err-assign-clause-reads
simple-returns-in_err-assign-clause-reads t c = exit_simple c.from_residual-in_err-assign.result c.from_residual-in_err-assign.ensures.1 (λ k h. (c.pieces.invariant.1.breaks _ _ (simple_assign_f4 _ _ _ _ _ _ c.gap-self.ensures.same (sym c.is_redirection.ensures ∙ c.if-is_redirection.false) (sym c.is_word.ensures ∙ c.if-not-is_word.false) (sym c.assigns_at.ensures ∙ c.if-assigns_at.true) h))) c.in_err-assign.ensures.reads

pub simple-returns-in_err-push-2-clause-reads : goal.simple-returns-in_err-push-2-clause-reads
simple-returns-in_err-push-2-clause-reads t c = full_simple c.from_residual-in_err-push-2.result c.from_residual-in_err-push-2.ensures.1 c.in_err-push-2.ensures

pub simple-returns-in_err-word-clause-reads : goal.simple-returns-in_err-word-clause-reads
simple-returns-in_err-word-clause-reads t c = exit_simple c.from_residual-in_err-word.result c.from_residual-in_err-word.ensures.1 (λ k h. (c.pieces.invariant.1.breaks _ _ (simple_word_f4 _ _ _ _ _ _ c.gap-self.ensures.same (sym c.is_redirection.ensures ∙ c.if-is_redirection.false) (sym c.is_word.ensures ∙ c.if-not-is_word.false) (sym c.assigns_at.ensures ∙ c.if-assigns_at.false) h))) c.in_err-word.ensures.reads

pub simple-returns-in_err-push-3-clause-reads : goal.simple-returns-in_err-push-3-clause-reads
simple-returns-in_err-push-3-clause-reads t c = full_simple c.from_residual-in_err-push-3.result c.from_residual-in_err-push-3.ensures.1 c.in_err-push-3.ensures

pub some_list-returns-then-ends_list-clause-reads : goal.some_list-returns-then-ends_list-clause-reads
some_list-returns-then-ends_list-clause-reads t c = strayed c.gap-self.result.now c.args.depth c.stray.ensures.kind c.stray.ensures.place (some_list_none _ _ _ c.gap-self.ensures.same (sym c.ends_list.ensures ∙ c.if-ends_list.true))

pub some_list-returns-clause-reads : goal.some_list-returns-clause-reads
some_list-returns-clause-reads t c = record { is = each_way (Answers (list c.args.depth) c.gap-self.result.now c.list.new.self.rest.now) (Answers (some_list c.args.depth) c.args.self.now.rest.now c.list.new.self.rest.now) (λ v h. (some_list_some _ _ _ _ _ c.gap-self.ensures.same (sym c.ends_list.ensures ∙ c.if-ends_list.false) h)) (λ k h. (some_list_some_f2 _ _ _ _ _ c.gap-self.ensures.same (sym c.ends_list.ensures ∙ c.if-ends_list.false) h)) tt c.list.result c.list.ensures.reads.is }

pub substitution-returns-then-depth-eq0-clause-reads : goal.substitution-returns-then-depth-eq0-clause-reads
substitution-returns-then-depth-eq0-clause-reads t c = record { is = (substitution_deep _ _ _ (no_depth c.args.depth c.if-depth-eq0.true)) }

pub substitution-returns-in_err-text-in-Some-clause-reads : goal.substitution-returns-in_err-text-in-Some-clause-reads
substitution-returns-in_err-text-in-Some-clause-reads t c = exit c.from_residual.result c.from_residual.ensures.1 (λ k h. (substitution_arith_f3 _ _ _ _ _ _ _ (some_depth c.args.depth c.if-depth-eq0.false) (parens_text c.args.self.now.rest.now _ _ _ c.tail.ensures.same c.joined.ensures.same c.tail-inner.ensures.same) c.in-Some.ensures.same h)) c.in_err-text-in-Some.ensures.reads

pub substitution-returns-in_err-close_arithmetic-in-Some-clause-reads : goal.substitution-returns-in_err-close_arithmetic-in-Some-clause-reads
substitution-returns-in_err-close_arithmetic-in-Some-clause-reads t c = stuck_parens _ c.parts.new.self.rest.now c.from_residual-in_err-close_arithmetic-in-Some.result c.from_residual-in_err-close_arithmetic-in-Some.ensures.1 (λ k h. (substitution_arith_stuck _ _ _ _ _ _ _ _ _ (some_depth c.args.depth c.if-depth-eq0.false) (parens_text c.args.self.now.rest.now _ _ _ c.tail.ensures.same c.joined.ensures.same c.tail-inner.ensures.same) c.in-Some.ensures.same c.in_ok-text-in-Some.ensures.reads.is (h _ _))) c.in_err-close_arithmetic-in-Some.ensures.closes

pub substitution-returns-in_err-list-in-None-clause-reads : goal.substitution-returns-in_err-list-in-None-clause-reads
substitution-returns-in_err-list-in-None-clause-reads t c = exit c.from_residual-in_err-list-in-None.result c.from_residual-in_err-list-in-None.ensures.1 (λ k h. (substitution_list_f3 _ _ _ _ _ _ (some_depth c.args.depth c.if-depth-eq0.false) (parens_text c.args.self.now.rest.now _ _ _ c.tail.ensures.same c.joined.ensures.same c.tail-inner.ensures.same) c.in-None.ensures.same h)) c.in_err-list-in-None.ensures.reads

pub substitution-returns-in_err-need-in-None-clause-reads : goal.substitution-returns-in_err-need-in-None-clause-reads
substitution-returns-in_err-need-in-None-clause-reads t c = missing _ (follow (codes ")") c.list.new.self.rest.now) (c.args.depth - 1) c.list.new.self.rest.now c.from_residual-in_err-need-in-None.result c.from_residual-in_err-need-in-None.ensures.1 (λ h. (substitution_stray _ _ _ _ _ _ (some_depth c.args.depth c.if-depth-eq0.false) (parens_text c.args.self.now.rest.now _ _ _ c.tail.ensures.same c.joined.ensures.same c.tail-inner.ensures.same) c.in-None.ensures.same c.in_ok-list-in-None.ensures.reads.is h)) c.in_err-need-in-None.ensures.follows

pub substitution-returns-in_ok-close_arithmetic-in-Some-clause-reads : goal.substitution-returns-in_ok-close_arithmetic-in-Some-clause-reads
substitution-returns-in_ok-close_arithmetic-in-Some-clause-reads t c = record { is = (substitution_arith _ _ _ _ _ _ _ _ _ (some_depth c.args.depth c.if-depth-eq0.false) (parens_text c.args.self.now.rest.now _ _ _ c.tail.ensures.same c.joined.ensures.same c.tail-inner.ensures.same) c.in-Some.ensures.same c.in_ok-text-in-Some.ensures.reads.is (c.in_ok-close_arithmetic-in-Some.ensures.closes _ _)) }

pub substitution-returns-in_ok-need-in-None-clause-reads : goal.substitution-returns-in_ok-need-in-None-clause-reads
substitution-returns-in_ok-need-in-None-clause-reads t c = record { is = (substitution_list _ _ _ _ _ _ _ (some_depth c.args.depth c.if-depth-eq0.false) (parens_text c.args.self.now.rest.now _ _ _ c.tail.ensures.same c.joined.ensures.same c.tail-inner.ensures.same) c.in-None.ensures.same c.in_ok-list-in-None.ensures.reads.is c.in_ok-need-in-None.ensures.follows) }

pub turns-returns-in_err-test-clause-reads : goal.turns-returns-in_err-test-clause-reads
turns-returns-in_err-test-clause-reads t c = exit c.from_residual.result c.from_residual.ensures.1 (λ k h. (turns_of_f0 _ _ _ _ _ h)) c.in_err-test.ensures.reads

pub turns-returns-in_err-body-clause-reads : goal.turns-returns-in_err-body-clause-reads
turns-returns-in_err-body-clause-reads t c = exit c.from_residual-in_err-body.result c.from_residual-in_err-body.ensures.1 (λ k h. (turns_of_f1 _ _ _ _ _ _ _ c.in_ok-test.ensures.reads.is h)) c.in_err-body.ensures.reads

pub turns-returns-clause-reads : goal.turns-returns-clause-reads
turns-returns-clause-reads t c = record { is = (turns_of _ _ _ _ _ _ _ c.in_ok-test.ensures.reads.is c.in_ok-body.ensures.reads.is) }

pub word-returns-in_err-word-clause-reads : goal.word-returns-in_err-word-clause-reads
word-returns-in_err-word-clause-reads t c = exit c.from_residual.result c.from_residual.ensures.1 (λ k h. (parts_more_f2 _ _ _ _ _ _ c.joined-self.ensures.same (word_goes _ _ c.joined-self.ensures.same (is_true (is_word c.args.self.now.rest.now) c.requires)) h)) c.in_err-word.ensures.reads

pub word-returns-in_err-more-clause-reads : goal.word-returns-in_err-more-clause-reads
word-returns-in_err-more-clause-reads t c = exit c.from_residual-in_err-more.result c.from_residual-in_err-more.ensures.1 (λ k h. (parts_more_f3 _ _ _ _ _ _ _ _ c.joined-self.ensures.same (word_goes _ _ c.joined-self.ensures.same (is_true (is_word c.args.self.now.rest.now) c.requires)) c.in_ok-word.ensures.reads.is h)) c.in_err-more.ensures.reads

pub word-returns-in_err-append-clause-reads : goal.word-returns-in_err-append-clause-reads
word-returns-in_err-append-clause-reads t c = full c.from_residual-in_err-append.result c.from_residual-in_err-append.ensures.1 c.in_err-append.ensures

pub word-returns-clause-reads : goal.word-returns-clause-reads
word-returns-clause-reads t c = record { is = subst (λ (ps : List Part). Reads (parts Bare c.args.depth) c.args.self.now.rest.now (done ps c.parts.new.self.rest.now)) (sym c.in_ok-append.ensures) (parts_more _ _ _ _ _ _ _ _ c.joined-self.ensures.same (word_goes _ _ c.joined-self.ensures.same (is_true (is_word c.args.self.now.rest.now) c.requires)) c.in_ok-word.ensures.reads.is c.in_ok-more.ensures.reads.is) }

pub words-returns-then-not-is_word-clause-reads : goal.words-returns-then-not-is_word-clause-reads
words-returns-then-not-is_word-clause-reads t c = ends c.words.invariant.1 (words_end _ _ _ c.gap-self.ensures.same (sym c.is_word.ensures ∙ c.if-not-is_word.true)) (append_nil c.words.words)

pub words-returns-in_err-word-clause-reads : goal.words-returns-in_err-word-clause-reads
words-returns-in_err-word-clause-reads t c = exit c.from_residual.result c.from_residual.ensures.1 (λ k h. (c.words.invariant.1.breaks _ _ (words_more_f2 _ _ _ _ _ c.gap-self.ensures.same (sym c.is_word.ensures ∙ c.if-not-is_word.false) h))) c.in_err-word.ensures.reads

pub words-returns-in_err-push-clause-reads : goal.words-returns-in_err-push-clause-reads
words-returns-in_err-push-clause-reads t c = full c.from_residual-in_err-push.result c.from_residual-in_err-push.ensures.1 c.in_err-push.ensures

pub and_or-links-init : goal.and_or-links-init
and_or-links-init t c = (search rules, moves {f = λ ls. roll-AndOr (record { first = c.in_ok-first.first; rest = ls })} (record { gives = λ v r h. (and_or_of _ _ _ _ _ _ c.in_ok-first.ensures.reads.is h); breaks = λ k r h. (and_or_of_f1 _ _ _ _ _ _ c.in_ok-first.ensures.reads.is h) }) (λ v. ap (λ x. roll-AndOr (record { first = c.in_ok-first.first; rest = x ++ v })) (sym c.new-rest.ensures)))

pub and_or-links-preserved : goal.and_or-links-preserved
and_or-links-preserved t c = (search rules, step c.links.invariant.1 (links_leads c.args.depth c.links.self.rest.now c.link.new.self.rest.now c.in-Some.when_ok _ _ c.in-Some.ensures.linked c.in_ok-next-in-Some.ensures.reads.is) (λ v. ap (λ ls. roll-AndOr (record { first = c.in_ok-first.first; rest = ls })) (more c.links.rest _ v c.in_ok-push-in-Some.ensures)))

pub branches-arms-init : goal.branches-arms-init
branches-arms-init t c = (search rules, starts (λ v. ap (λ x. (x ++ v.0, v.1)) (sym c.new-arms.ensures)))

pub branches-arms-preserved : goal.branches-arms-preserved
branches-arms-preserved t c = (search rules, step c.arms.invariant.1 (record { gives = λ v r h. (branches_more _ _ _ _ _ _ _ _ _ _ c.in_ok-test.ensures.reads.is c.in_ok-need_word.ensures.follows c.in_ok-body.ensures.reads.is c.in-Some.ensures.same h); breaks = λ k r h. (branches_more_f4 _ _ _ _ _ _ _ _ _ _ c.in_ok-test.ensures.reads.is c.in_ok-need_word.ensures.follows c.in_ok-body.ensures.reads.is c.in-Some.ensures.same h) }) (λ v. ap (λ xs. (xs, v.1)) (more c.arms.arms _ v.0 c.in_ok-push.ensures)))

pub cases-cases-init : goal.cases-cases-init
cases-cases-init t c = (search rules, starts (λ v. ap (λ x. x ++ v) (sym c.new-cases.ensures)))

pub cases-cases-preserved : goal.cases-cases-preserved
cases-cases-preserved t c = (search rules, step c.cases.invariant.1 (record { gives = λ v r h. (cases_more _ _ _ _ _ _ _ _ c.gap-self.ensures.same c.in-None.ensures.same c.in_ok-case.ensures.reads.is c.in-Some-follow.ensures.same h); breaks = λ k r h. (cases_more_f4 _ _ _ _ _ _ _ _ c.gap-self.ensures.same c.in-None.ensures.same c.in_ok-case.ensures.reads.is c.in-Some-follow.ensures.same h) }) (λ v. more c.cases.cases _ v c.in_ok-push.ensures))

pub commands-commands-init : goal.commands-commands-init
commands-commands-init t c = (search rules, starts (λ v. ap (λ x. x ++ v) (sym c.new-commands.ensures)))

pub commands-commands-preserved : goal.commands-commands-preserved
commands-commands-preserved t c = (search rules, step c.commands.invariant.1 (record { gives = λ v r h. (commands_of _ _ _ _ _ _ c.in_ok-command.ensures.reads.is (piped_more _ _ _ _ _ _ _ c.gap-self.ensures.same c.in-Some.ensures.same c.gap-self-in-Some.ensures.same h)); breaks = λ k r h. (commands_of_f1 _ _ _ _ _ _ c.in_ok-command.ensures.reads.is (piped_more_f3 _ _ _ _ _ _ _ c.gap-self.ensures.same c.in-Some.ensures.same c.gap-self-in-Some.ensures.same h)) }) (λ v. more c.commands.commands _ v c.in_ok-push.ensures))

pub list-items-init : goal.list-items-init
list-items-init t c = (search rules, starts (λ v. ap (λ x. x ++ v) (sym c.new-all.ensures)))

pub list-items-preserved : goal.list-items-preserved
list-items-preserved t c = (search rules, step c.items.invariant.1 (record { gives = λ v r h. (list_item _ _ _ _ _ _ _ c.gap-self.ensures.same (sym c.ends_list.ensures ∙ c.if-ends_list.false) c.in_ok-item.ensures.reads.is (after_more _ _ _ _ _ _ c.gap-self-in-items.ensures.same (sym c.ends_list-in-items.ensures ∙ c.if-ends_list-2.false) c.in_ok-separator.ensures.separates h)); breaks = λ k r h. (list_item_f _ _ _ _ _ _ _ c.gap-self.ensures.same (sym c.ends_list.ensures ∙ c.if-ends_list.false) c.in_ok-item.ensures.reads.is (after_more_f4 _ _ _ _ _ _ c.gap-self-in-items.ensures.same (sym c.ends_list-in-items.ensures ∙ c.if-ends_list-2.false) c.in_ok-separator.ensures.separates h)) }) (λ v. more c.items.all _ v c.in_ok-push.ensures))

pub parts-parts-init : goal.parts-parts-init
parts-parts-init t c = (search rules, starts (λ v. ap (λ x. x ++ v) (sym c.new-parts.ensures)))

pub parts-parts-preserved : goal.parts-parts-preserved
parts-parts-preserved t c = (search rules, step c.parts.invariant.1 (record { gives = λ v r h. (parts_more _ _ _ _ _ _ _ _ c.joined-self.ensures.same (sym c.stops_at.ensures ∙ c.if-stops_at.false) c.in_ok-more.ensures.reads.is h); breaks = λ k r h. (parts_more_f3 _ _ _ _ _ _ _ _ c.joined-self.ensures.same (sym c.stops_at.ensures ∙ c.if-stops_at.false) c.in_ok-more.ensures.reads.is h) }) (λ v. joins c.parts.parts c.in_ok-more.more v c.in_ok-append.ensures))

pub patterns-patterns-init : goal.patterns-patterns-init
patterns-patterns-init t c = (search rules, starts (λ v. ap (λ x. x ++ v) (sym c.new-patterns.ensures)))

pub patterns-patterns-preserved : goal.patterns-patterns-preserved
patterns-patterns-preserved t c = (search rules, step c.patterns.invariant.1 (record { gives = λ v r h. (patterns_more _ _ _ _ _ _ _ _ _ (sym c.is_word.ensures ∙ c.if-not-is_word.false) c.in_ok-pattern.ensures.reads.is c.gap-self.ensures.same c.in-None.ensures.same c.in-Some-single_bar.ensures.same c.gap-self-in-Some-single_bar.ensures.same h); breaks = λ k r h. (patterns_more_f6 _ _ _ _ _ _ _ _ _ (sym c.is_word.ensures ∙ c.if-not-is_word.false) c.in_ok-pattern.ensures.reads.is c.gap-self.ensures.same c.in-None.ensures.same c.in-Some-single_bar.ensures.same c.gap-self-in-Some-single_bar.ensures.same h) }) (λ v. more c.patterns.patterns _ v c.in_ok-push.ensures))

pub simple-pieces-init : goal.simple-pieces-init
simple-pieces-init t c = (search rules, starts (λ v. ap (λ x. (x ++ v.0, v.1, v.2)) (sym c.new-assigns.ensures) ∙ ap (λ x. (c.new-assigns.result ++ v.0, x ++ v.1, v.2)) (sym c.new-words.ensures) ∙ ap (λ x. (c.new-assigns.result ++ v.0, c.new-words.result ++ v.1, x ++ v.2)) (sym c.new-redirs.ensures)))

pub simple-pieces-preserved-in-Continue-branch-2 : goal.simple-pieces-preserved-in-Continue-branch-2
simple-pieces-preserved-in-Continue-branch-2 t c = (search rules, step c.pieces.invariant.1 (record { gives = λ v r h. (simple_redir _ _ _ _ _ _ _ _ c.gap-self.ensures.same (sym c.is_redirection.ensures ∙ c.if-is_redirection.true) c.in_ok-redir.ensures.reads.is h); breaks = λ k r h. (simple_redir_f3 _ _ _ _ _ _ _ _ c.gap-self.ensures.same (sym c.is_redirection.ensures ∙ c.if-is_redirection.true) c.in_ok-redir.ensures.reads.is h) }) (λ v. ap (λ xs. (c.pieces.assigns ++ v.0, c.pieces.words ++ v.1, xs)) (more c.pieces.redirs _ v.2 c.in_ok-push.ensures)))

pub simple-pieces-preserved-in-Continue-branch-4 : goal.simple-pieces-preserved-in-Continue-branch-4
simple-pieces-preserved-in-Continue-branch-4 t c = (search rules, step c.pieces.invariant.1 (subst (λ (b : Bool). Leads (simple c.pieces.seen c.args.depth) (simple b c.args.depth) c.pieces.self.rest.now c.assign.new.self.rest.now (λ v. (c.in_ok-assign.assign ∷ v.0, v.1, v.2))) (sym (assigns_unseen _ _ (sym c.assigns_at.ensures ∙ c.if-assigns_at.true))) (record { gives = λ v r h. (simple_assign _ _ _ _ _ _ _ _ c.gap-self.ensures.same (sym c.is_redirection.ensures ∙ c.if-is_redirection.false) (sym c.is_word.ensures ∙ c.if-not-is_word.false) (sym c.assigns_at.ensures ∙ c.if-assigns_at.true) c.in_ok-assign.ensures.reads.is h); breaks = λ k r h. (simple_assign_f5 _ _ _ _ _ _ _ _ c.gap-self.ensures.same (sym c.is_redirection.ensures ∙ c.if-is_redirection.false) (sym c.is_word.ensures ∙ c.if-not-is_word.false) (sym c.assigns_at.ensures ∙ c.if-assigns_at.true) c.in_ok-assign.ensures.reads.is h) })) (λ v. ap (λ xs. (xs, c.pieces.words ++ v.1, c.pieces.redirs ++ v.2)) (more c.pieces.assigns _ v.0 c.in_ok-push-2.ensures)))

pub simple-pieces-preserved : goal.simple-pieces-preserved
simple-pieces-preserved t c = (search rules, step c.pieces.invariant.1 (record { gives = λ v r h. (simple_word _ _ _ _ _ _ _ _ c.gap-self.ensures.same (sym c.is_redirection.ensures ∙ c.if-is_redirection.false) (sym c.is_word.ensures ∙ c.if-not-is_word.false) (sym c.assigns_at.ensures ∙ c.if-assigns_at.false) c.in_ok-word.ensures.reads.is h); breaks = λ k r h. (simple_word_f5 _ _ _ _ _ _ _ _ c.gap-self.ensures.same (sym c.is_redirection.ensures ∙ c.if-is_redirection.false) (sym c.is_word.ensures ∙ c.if-not-is_word.false) (sym c.assigns_at.ensures ∙ c.if-assigns_at.false) c.in_ok-word.ensures.reads.is h) }) (λ v. ap (λ xs. (c.pieces.assigns ++ v.0, xs, c.pieces.redirs ++ v.2)) (more c.pieces.words _ v.1 c.in_ok-push-3.ensures)))

pub words-words-init : goal.words-words-init
words-words-init t c = (search rules, starts (λ v. ap (λ x. x ++ v) (sym c.new-words.ensures)))

pub words-words-preserved : goal.words-words-preserved
words-words-preserved t c = (search rules, step c.words.invariant.1 (record { gives = λ v r h. (words_more _ _ _ _ _ _ _ c.gap-self.ensures.same (sym c.is_word.ensures ∙ c.if-not-is_word.false) c.in_ok-word.ensures.reads.is h); breaks = λ k r h. (words_more_f3 _ _ _ _ _ _ _ c.gap-self.ensures.same (sym c.is_word.ensures ∙ c.if-not-is_word.false) c.in_ok-word.ensures.reads.is h) }) (λ v. more c.words.words _ v c.in_ok-push.ensures))
