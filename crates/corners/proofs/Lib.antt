mod Rows
mod EndRows
mod Copied
mod Size
mod SumRows
