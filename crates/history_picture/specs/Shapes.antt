-- For the prover, and for callers.
-- The tags of a page that have a class or numbers in them (SVG 2: rect, line, path and text; HTML: tr).
use Rattle.std.specs.Prelude.{ℕ, List, ◌++◌, codes, decimal}
use Rattle.history_picture.specs.declared.shapes.Class.{Class}
use Rattle.history_picture.specs.declared.shapes.Class.TheVariants as classes
use Rattle.history_picture.specs.declared.shapes.Shape.{Shape}
use Rattle.history_picture.specs.declared.shapes.Shape.TheVariants as shapes

abbrev pub class_words : Class → List ℕ
class_words classes.Names = codes "names"
class_words classes.Again = codes "again"
class_words classes.Strip = codes "strip"
class_words classes.Lane = codes "lane"
class_words classes.Odd = codes "odd"
class_words classes.Tick = codes "tick"
class_words classes.Crash = codes "crash"
class_words classes.Bar = codes "bar"
class_words classes.Cut = codes "cut"
class_words classes.Unanswered = codes "unanswered"
class_words classes.Lost = codes "lost"
class_words classes.Label = codes "label"
class_words classes.Plain = codes "plain"
class_words classes.Asked = codes "asked"
class_words classes.Fault = codes "fault"
class_words classes.Explains = codes "explains"

-- each is whole: it begins and ends outside of a tag
abbrev pub shape_words : Shape → List ℕ
shape_words (shapes.Svg class left width height) =
    (codes "<svg class=\"" ++ (class_words class ++ (codes "\" width=\"" ++ (decimal width ++ (codes "\" height=\"" ++ (decimal height ++ codes "\""))))))
    ++ (codes " viewBox=\"" ++ (decimal left ++ (codes " 0 " ++ (decimal width ++ (codes " " ++ (decimal height ++ codes "\">\n"))))))
shape_words (shapes.Group class) = codes "<g class=\"" ++ (class_words class ++ codes "\">")
shape_words (shapes.Rect class x y width height) =
    codes "<rect class=\"" ++ (class_words class ++ (codes "\" x=\"" ++ (decimal x ++ (codes "\" y=\"" ++ (decimal y
    ++ (codes "\" width=\"" ++ (decimal width ++ (codes "\" height=\"" ++ (decimal height ++ codes "\"/>\n")))))))))
shape_words (shapes.Open class free top closed bottom) =
    codes "<path class=\"" ++ (class_words class ++ (codes "\" d=\"M" ++ (decimal free ++ (codes " " ++ (decimal top
    ++ (codes "H" ++ (decimal closed ++ (codes "V" ++ (decimal bottom ++ (codes "H" ++ (decimal free ++ codes "\"/>\n")))))))))))
shape_words (shapes.Upright class x top bottom) =
    codes "<line class=\"" ++ (class_words class ++ (codes "\" x1=\"" ++ (decimal x ++ (codes "\" y1=\"" ++ (decimal top
    ++ (codes "\" x2=\"" ++ (decimal x ++ (codes "\" y2=\"" ++ (decimal bottom ++ codes "\"/>\n")))))))))
shape_words (shapes.Text class x y) =
    codes "<text class=\"" ++ (class_words class ++ (codes "\" x=\"" ++ (decimal x ++ (codes "\" y=\"" ++ (decimal y ++ codes "\">")))))
shape_words (shapes.Row class) = codes "<tr class=\"" ++ (class_words class ++ codes "\"><td>")
