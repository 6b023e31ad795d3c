use Rattle.std.proofs.Common.{◌≤◌, ◌+◌, ◌*◌, ◌++◌, false, length}
use Rattle.sh_tree.specs.declared.AndOr.{roll-AndOr}
use Rattle.sh_parser.specs.Grammar.{list, and_or, links, commands, simple, branches, words, cases, patterns, parts}
use Rattle.sh_parser.proofs.Steps.{Leads}
use Rattle.sh_parser.specs.Modes.{rank}
use Rattle.sh_parser.proofs.reader.Reader.+read.Given as goal

abbrev pub invariant-list-items : goal.invariant-list-items
invariant-list-items l =
    (length l.self.rest.now ≤ length l.fn.self.rest.now)
    × Leads (list l.depth) (list l.depth) l.fn.self.rest.now l.self.rest.now (λ xs. l.all ++ xs)

abbrev pub decreases-list-items : goal.decreases-list-items
decreases-list-items l = length l.self.rest.now

abbrev pub invariant-and_or-links : goal.invariant-and_or-links
invariant-and_or-links l =
    (length l.self.rest.now ≤ length l.fn.self.rest.now)
    × Leads (and_or l.depth) (links l.depth) l.fn.self.rest.now l.self.rest.now (λ xs. roll-AndOr (record { first = l.first; rest = l.rest ++ xs }))

abbrev pub decreases-and_or-links : goal.decreases-and_or-links
decreases-and_or-links l = length l.self.rest.now

abbrev pub invariant-commands-commands : goal.invariant-commands-commands
invariant-commands-commands l =
    (length l.self.rest.now ≤ length l.fn.self.rest.now)
    × Leads (commands l.depth) (commands l.depth) l.fn.self.rest.now l.self.rest.now (λ xs. l.commands ++ xs)

abbrev pub decreases-commands-commands : goal.decreases-commands-commands
decreases-commands-commands l = length l.self.rest.now

abbrev pub invariant-simple-pieces : goal.invariant-simple-pieces
invariant-simple-pieces l =
    (length l.self.rest.now ≤ length l.fn.self.rest.now)
    × Leads (simple false l.depth) (simple l.seen l.depth) l.fn.self.rest.now l.self.rest.now (λ v. (l.assigns ++ v.0, l.words ++ v.1, l.redirs ++ v.2))

abbrev pub decreases-simple-pieces : goal.decreases-simple-pieces
decreases-simple-pieces l = length l.self.rest.now

abbrev pub invariant-branches-arms : goal.invariant-branches-arms
invariant-branches-arms l =
    (length l.self.rest.now ≤ length l.fn.self.rest.now)
    × Leads (branches l.depth) (branches l.depth) l.fn.self.rest.now l.self.rest.now (λ v. (l.arms ++ v.0, v.1))

abbrev pub decreases-branches-arms : goal.decreases-branches-arms
decreases-branches-arms l = length l.self.rest.now

abbrev pub invariant-words-words : goal.invariant-words-words
invariant-words-words l =
    (length l.self.rest.now ≤ length l.fn.self.rest.now)
    × Leads (words l.depth) (words l.depth) l.fn.self.rest.now l.self.rest.now (λ xs. l.words ++ xs)

abbrev pub decreases-words-words : goal.decreases-words-words
decreases-words-words l = length l.self.rest.now

abbrev pub invariant-cases-cases : goal.invariant-cases-cases
invariant-cases-cases l =
    (length l.self.rest.now ≤ length l.fn.self.rest.now)
    × Leads (cases l.depth) (cases l.depth) l.fn.self.rest.now l.self.rest.now (λ xs. l.cases ++ xs)

abbrev pub decreases-cases-cases : goal.decreases-cases-cases
decreases-cases-cases l = length l.self.rest.now

abbrev pub invariant-patterns-patterns : goal.invariant-patterns-patterns
invariant-patterns-patterns l =
    (length l.self.rest.now ≤ length l.fn.self.rest.now)
    × Leads (patterns l.depth) (patterns l.depth) l.fn.self.rest.now l.self.rest.now (λ xs. l.patterns ++ xs)

abbrev pub decreases-patterns-patterns : goal.decreases-patterns-patterns
decreases-patterns-patterns l = length l.self.rest.now

abbrev pub invariant-parts-parts : goal.invariant-parts-parts
invariant-parts-parts l =
    (length l.self.rest.now ≤ length l.fn.self.rest.now)
    × Leads (parts l.mode l.depth) (parts l.mode l.depth) l.fn.self.rest.now l.self.rest.now (λ xs. l.parts ++ xs)

abbrev pub decreases-parts-parts : goal.decreases-parts-parts
decreases-parts-parts l = length l.self.rest.now

abbrev pub decreases-word : goal.decreases-word
decreases-word l = 40 * l.depth + 7

abbrev pub decreases-assign : goal.decreases-assign
decreases-assign l = 40 * l.depth + 7

abbrev pub decreases-simple : goal.decreases-simple
decreases-simple l = 40 * l.depth + 8

abbrev pub decreases-words : goal.decreases-words
decreases-words l = 40 * l.depth + 8

abbrev pub decreases-each_words : goal.decreases-each_words
decreases-each_words l = 40 * l.depth + 9

abbrev pub decreases-patterns : goal.decreases-patterns
decreases-patterns l = 40 * l.depth + 8

abbrev pub decreases-compound : goal.decreases-compound
decreases-compound l = 40 * l.depth + 9

abbrev pub decreases-form : goal.decreases-form
decreases-form l = 40 * l.depth + 30

abbrev pub decreases-enclosed : goal.decreases-enclosed
decreases-enclosed l = 40 * l.depth + 10

abbrev pub decreases-function : goal.decreases-function
decreases-function l = 40 * l.depth + 11

abbrev pub decreases-command : goal.decreases-command
decreases-command l = 40 * l.depth + 12

abbrev pub decreases-commands : goal.decreases-commands
decreases-commands l = 40 * l.depth + 13

abbrev pub decreases-pipeline : goal.decreases-pipeline
decreases-pipeline l = 40 * l.depth + 14

abbrev pub decreases-and_or : goal.decreases-and_or
decreases-and_or l = 40 * l.depth + 15

abbrev pub decreases-list : goal.decreases-list
decreases-list l = 40 * l.depth + 16

abbrev pub decreases-some_list : goal.decreases-some_list
decreases-some_list l = 40 * l.depth + 17

abbrev pub decreases-do_group : goal.decreases-do_group
decreases-do_group l = 40 * l.depth + 18

abbrev pub decreases-otherwise : goal.decreases-otherwise
decreases-otherwise l = 40 * l.depth + 18

abbrev pub decreases-case : goal.decreases-case
decreases-case l = 40 * l.depth + 18

abbrev pub decreases-cases : goal.decreases-cases
decreases-cases l = 40 * l.depth + 19

abbrev pub decreases-choice : goal.decreases-choice
decreases-choice l = 40 * l.depth + 20

abbrev pub decreases-each : goal.decreases-each
decreases-each l = 40 * l.depth + 20

abbrev pub decreases-turns : goal.decreases-turns
decreases-turns l = 40 * l.depth + 20

abbrev pub decreases-branches : goal.decreases-branches
decreases-branches l = 40 * l.depth + 20

abbrev pub decreases-dollar : goal.decreases-dollar
decreases-dollar l = 40 * l.depth + 2

abbrev pub decreases-braces : goal.decreases-braces
decreases-braces l = 40 * l.depth + 1

abbrev pub decreases-substitution : goal.decreases-substitution
decreases-substitution l = 40 * l.depth + 1

abbrev pub decreases-piece : goal.decreases-piece
decreases-piece l = 40 * l.depth + 3 + rank l.mode

abbrev pub decreases-parts : goal.decreases-parts
decreases-parts l = 40 * l.depth + 4 + rank l.mode
