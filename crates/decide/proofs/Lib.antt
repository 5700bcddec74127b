mod Alike
mod SpanLaws
mod Lasting
mod Walking
mod ShownTwice
mod Named
